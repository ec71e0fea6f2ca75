-- Expressions with statements before them, which declare locals of their own.
use Rattle.std.specs.Prelude.{ℕ, pos, Bool, true, false, List, [], ◌∷◌, ◌++◌, map, codes, Option, Some, None, option_map}
use Rattle.glue_words.specs.declared.punct.TheConstants as punct
use Rattle.glue_words.specs.declared.key.TheConstants as key
use Rattle.glue_shared.specs.declared.import.Intrinsic.{Intrinsic}
use Rattle.glue_shared.specs.declared.import.Intrinsic.TheVariants as i
use Rattle.glue_shared.specs.declared.settings.Target.{Target}
use Rattle.glue_shared.specs.declared.settings.Target.TheVariants as targets
use Rattle.glue_imports.specs.declared.part.Part.{Part}
use Rattle.glue_imports.specs.declared.part.Part.TheVariants as p
use Rattle.glue_imports.specs.declared.part.Expression.{Expression}
use Rattle.glue_imports.specs.Intrinsics.{host, same}

-- an expression without statements before it
abbrev pub plain : List Part → Expression
plain value = record { locals = []; prelude = []; value = value }

-- ---- statements

-- `;` and the end of the line
abbrev pub line_end : List Part
line_end = p.Punct punct.SEMICOLON ∷ p.LineFeed ∷ []

-- `const x = value;`, of the first local
abbrev pub const_line : Part → List Part
const_line value =
    p.Key key.CONST ∷ p.Space ∷ p.Binding 0 ∷ p.Space ∷ p.Punct punct.ASSIGN ∷ p.Space ∷ value ∷ line_end

-- `let result;`, of the first local
abbrev pub let_line : List Part
let_line = p.Key key.LET ∷ p.Space ∷ p.Binding 0 ∷ line_end

-- `result = value`
abbrev pub result_is : List Part → List Part
result_is value = p.Local 0 ∷ p.Space ∷ p.Punct punct.ASSIGN ∷ p.Space ∷ value

-- `try {`
abbrev pub try_front : List Part
try_front = p.Key key.TRY ∷ p.Space ∷ p.Punct punct.OPEN_BRACE ∷ []

-- `} catch (e) {`, of the second local
abbrev pub catch_front : List Part
catch_front =
    p.Punct punct.CLOSE_BRACE ∷ p.Space ∷ p.Key key.CATCH ∷ p.Space ∷ p.Punct punct.OPEN_PAREN ∷ p.Binding 1
    ∷ p.Punct punct.CLOSE_PAREN ∷ p.Space ∷ p.Punct punct.OPEN_BRACE ∷ []

-- `}` and the end of the line
abbrev pub close_line : List Part
close_line = p.Punct punct.CLOSE_BRACE ∷ p.LineFeed ∷ []

-- `let result;`, and in a `try` the value of it, with these statements for what is thrown
abbrev pub tried : (value caught : List Part) → List Part
tried value caught =
    let_line ++ (try_front ++ (p.LineFeed ∷ (result_is value ++ line_end) ++ (catch_front ++ p.LineFeed ∷ caught ++ close_line)))

-- ---- expressions by the operand's type

-- `typeof(x) === "type"`, of the first local
abbrev pub local_type : List ℕ → List Part
local_type name =
    p.Key key.TYPEOF ∷ p.Punct punct.OPEN_PAREN ∷ p.Local 0 ∷ p.Punct punct.CLOSE_PAREN
    ∷ p.Space ∷ p.Punct punct.EQUAL ∷ p.Space ∷ p.Literal name ∷ []

-- ` ? x : y`
abbrev pub choice : (first second : List Part) → List Part
choice first second = p.Space ∷ p.Punct punct.QUESTION ∷ p.Space ∷ first ++ p.Space ∷ p.Punct punct.COLON ∷ p.Space ∷ second

-- the operand, bound to a local of this name, where it has the type, and else `undefined`
abbrev pub typed_value : (wanted name : List ℕ) → Expression
typed_value wanted name = record {
  locals = wanted ∷ [];
  prelude = const_line (p.Whole 0);
  value = local_type name ++ choice (p.Local 0 ∷ []) (host (codes "undefined") ∷ []);
}

-- `typeof(val) === "object" && val !== null`
abbrev pub object_test : Expression
object_test = record {
  locals = codes "val" ∷ [];
  prelude = const_line (p.Whole 0);
  value = local_type (codes "object")
      ++ p.Space ∷ p.Punct punct.AND ∷ p.Space ∷ p.Local 0 ∷ p.Space ∷ p.Punct punct.UNEQUAL ∷ p.Space ∷ p.Key key.NULL ∷ [];
}

-- ---- expressions that are tried

-- whether the operand is an instance of the value; where the test throws it isn't
abbrev pub instance_of : (value : List Part) → Expression
instance_of value = record {
  locals = codes "result" ∷ codes "_" ∷ [];
  prelude = tried (p.Operand 0 ∷ p.Space ∷ p.Key key.INSTANCEOF ∷ p.Space ∷ value) (result_is (p.Key key.FALSE ∷ line_end));
  value = p.Local 0 ∷ [];
}

-- `result = +a ` of a `try` on one line
abbrev pub number_tried : List Part
number_tried = result_is (p.Punct punct.PLUS ∷ p.Operand 0 ∷ p.Space ∷ [])

-- `result = e }` of a `catch` on one line
abbrev pub throw_caught : List Part
throw_caught = result_is (p.Local 1 ∷ p.Space ∷ close_line)

-- `+a`, or what it throws
abbrev pub number_of : Expression
number_of = record {
  locals = codes "result" ∷ codes "e" ∷ [];
  prelude = let_line ++ (try_front ++ (p.Space ∷ number_tried ++ (catch_front ++ p.Space ∷ throw_caught)));
  value = p.Local 0 ∷ [];
}

-- `if (e instanceof RangeError) {` and the end of the line
abbrev pub range_test : List Part
range_test =
    p.Key key.IF ∷ p.Space ∷ p.Punct punct.OPEN_PAREN ∷ p.Local 1 ∷ p.Space ∷ p.Key key.INSTANCEOF ∷ p.Space
    ∷ host (codes "RangeError") ∷ p.Punct punct.CLOSE_PAREN ∷ p.Space ∷ p.Punct punct.OPEN_BRACE ∷ p.LineFeed ∷ []

-- `} else {`, `throw e;` and `}`, each with the end of its line
abbrev pub other_errors : List Part
other_errors =
    p.Punct punct.CLOSE_BRACE ∷ p.Space ∷ p.Key key.ELSE ∷ p.Space ∷ p.Punct punct.OPEN_BRACE ∷ p.LineFeed
    ∷ p.Key key.THROW ∷ p.Space ∷ p.Local 1 ∷ line_end ++ close_line

-- `result = e;` for a `RangeError`, and else it is thrown again
abbrev pub range_errors : List Part
range_errors = range_test ++ (result_is (p.Local 1 ∷ line_end) ++ other_errors)

-- `a / b`, or the `RangeError` that it throws
abbrev pub checked_quotient : Expression
checked_quotient = record {
  locals = codes "result" ∷ codes "e" ∷ [];
  prelude = tried (p.Operand 0 ∷ p.Space ∷ p.Punct punct.DIVIDE ∷ p.Space ∷ p.Operand 1 ∷ []) range_errors;
  value = p.Local 0 ∷ [];
}

-- ---- the count of objects in the object table

-- `let x = value;`, of the local at a place
abbrev pub let_value : ℕ → Part → List Part
let_value place value =
    p.Key key.LET ∷ p.Space ∷ p.Binding place ∷ p.Space ∷ p.Punct punct.ASSIGN ∷ p.Space ∷ value ∷ line_end

-- `let free_count = 0;` and `let next = heap_next;`, of the first and the second local
abbrev pub count_front : List Part
count_front = let_value 0 (p.Number (pos 0)) ++ let_value 1 (p.Name (codes "heap_next"))

-- `heap.length`
abbrev pub heap_length : List Part
heap_length = p.Name (codes "heap") ∷ p.Property (codes "length") ∷ []

-- `while (next < heap.length) {` and the end of the line
abbrev pub count_test : List Part
count_test =
    p.Key key.WHILE ∷ p.Space ∷ p.Punct punct.OPEN_PAREN ∷ p.Local 1 ∷ p.Space ∷ p.Punct punct.LESS ∷ p.Space ∷ heap_length
    ++ p.Punct punct.CLOSE_PAREN ∷ p.Space ∷ p.Punct punct.OPEN_BRACE ∷ p.LineFeed ∷ []

-- `free_count += 1;`
abbrev pub free_counted : List Part
free_counted = p.Local 0 ∷ p.Space ∷ p.Punct punct.ADD_ASSIGN ∷ p.Space ∷ p.Number (pos 1) ∷ line_end

-- `next = heap[next];`
abbrev pub next_free : List Part
next_free =
    p.Local 1 ∷ p.Space ∷ p.Punct punct.ASSIGN ∷ p.Space ∷ p.Name (codes "heap")
    ∷ p.Punct punct.OPEN_BRACKET ∷ p.Local 1 ∷ p.Punct punct.CLOSE_BRACKET ∷ line_end

-- ` - a`
abbrev pub less : Part → List Part
less value = p.Space ∷ p.Punct punct.MINUS ∷ p.Space ∷ value ∷ []

-- `heap.length - free_count - 1024 - 4`: the places that are neither free, nor of borrowed objects, nor of the four constants
abbrev pub count_value : List Part
count_value = heap_length ++ (less (p.Local 0) ++ (less (p.Number (pos 1024)) ++ less (p.Number (pos 4))))

-- how many objects the object table holds: the free places are counted along their chain
abbrev pub live_objects : Expression
live_objects = record {
  locals = codes "free_count" ∷ codes "next" ∷ [];
  prelude = count_front ++ (count_test ++ (free_counted ++ (next_free ++ close_line)));
  value = count_value;
}

-- where references stand in no table of the module, there is an object table
abbrev pub counted_objects : (externref : Bool) → Option Expression
counted_objects true = None
counted_objects false = Some live_objects

-- ---- intrinsics

-- the intrinsics that have statements before their expressions
abbrev pub intrinsic_prelude : (externref : Bool) → Intrinsic → Option Expression
intrinsic_prelude externref i.IsObject = Some object_test
intrinsic_prelude externref i.NumberGet = Some (typed_value (codes "obj") (codes "number"))
intrinsic_prelude externref i.StringGet = Some (typed_value (codes "obj") (codes "string"))
intrinsic_prelude externref i.BooleanGet = Some (typed_value (codes "v") (codes "boolean"))
intrinsic_prelude externref i.BigIntGetAsI64 = Some (typed_value (codes "v") (codes "bigint"))
intrinsic_prelude externref i.TryIntoNumber = Some number_of
intrinsic_prelude externref i.CheckedDiv = Some checked_quotient
intrinsic_prelude externref i.ExternrefHeapLiveCount = counted_objects externref
intrinsic_prelude externref other = None

-- ---- other kinds

-- the text of the note of a cast, which tells its types
abbrev pub cast_note : List ℕ → List ℕ
cast_note comment = codes "Cast intrinsic for `" ++ (comment ++ codes "`.")

-- the operand as it is, behind a note
abbrev pub cast : (bound : Bool) → (comment : List ℕ) → Expression
cast bound comment = record {
  locals = [];
  prelude = p.Note (cast_note comment) ∷ p.LineFeed ∷ [];
  value = same bound;
}

-- `URL.createObjectURL`
abbrev pub object_url : Part
object_url = p.Host (codes "URL") (codes "createObjectURL" ∷ [])

-- `"data:application/javascript," + encodeURIComponent(val)`
abbrev pub data_url : List Part
data_url =
    p.Literal (codes "data:application/javascript,") ∷ p.Space ∷ p.Punct punct.PLUS ∷ p.Space ∷ host (codes "encodeURIComponent")
    ∷ p.Punct punct.OPEN_PAREN ∷ p.Local 0 ∷ p.Punct punct.CLOSE_PAREN ∷ []

-- `{ type: "text/javascript" }`
abbrev pub script_type : List Part
script_type =
    p.Punct punct.OPEN_BRACE ∷ p.Space ∷ p.Member (codes "type") ∷ p.Punct punct.COLON ∷ p.Space
    ∷ p.Literal (codes "text/javascript") ∷ p.Space ∷ p.Punct punct.CLOSE_BRACE ∷ []

-- `new Blob([val], `
abbrev pub blob_front : List Part
blob_front =
    p.Key key.NEW ∷ p.Space ∷ host (codes "Blob") ∷ p.Punct punct.OPEN_PAREN ∷ p.Punct punct.OPEN_BRACKET ∷ p.Local 0
    ∷ p.Punct punct.CLOSE_BRACKET ∷ p.Punct punct.COMMA ∷ p.Space ∷ []

-- `URL.createObjectURL(new Blob([val], { type: "text/javascript" }))`
abbrev pub blob_url : List Part
blob_url =
    object_url ∷ p.Punct punct.OPEN_PAREN ∷ blob_front
    ++ (script_type ++ p.Punct punct.CLOSE_PAREN ∷ p.Punct punct.CLOSE_PAREN ∷ [])

-- `typeof x === "undefined" ? y : z`
abbrev pub unless_undefined : (tested : Part) → (first second : List Part) → List Part
unless_undefined tested first second =
    p.Key key.TYPEOF ∷ p.Space ∷ tested ∷ p.Space ∷ p.Punct punct.EQUAL ∷ p.Space ∷ p.Literal (codes "undefined")
    ∷ choice first second

-- a URL of a script with this content
abbrev pub link : (content : List ℕ) → Expression
link content = record {
  locals = codes "val" ∷ [];
  prelude = const_line (p.Literal content);
  value = unless_undefined object_url data_url blob_url;
}

-- `import.meta.url`
abbrev pub module_url : List Part
module_url = p.Key key.IMPORT ∷ p.Property (codes "meta") ∷ p.Property (codes "url") ∷ []

-- where the glue file lies, on the targets whose glue file is an ES module
abbrev pub file_base : Target → Option (List Part)
file_base (targets.NoModules global) = None
file_base (targets.Node false) = None
file_base other = Some module_url

-- `new URL("path", `
abbrev pub file_front : (path : List ℕ) → List Part
file_front path =
    p.Key key.NEW ∷ p.Space ∷ host (codes "URL") ∷ p.Punct punct.OPEN_PAREN ∷ p.Literal path ∷ p.Punct punct.COMMA ∷ p.Space ∷ []

-- `).toString()`
abbrev pub file_back : List Part
file_back = p.Punct punct.CLOSE_PAREN ∷ p.Property (codes "toString") ∷ p.Punct punct.OPEN_PAREN ∷ p.Punct punct.CLOSE_PAREN ∷ []

-- `new URL("path", base).toString()`
abbrev pub file_link : (path : List ℕ) → (base : List Part) → List Part
file_link path base = file_front path ++ (base ++ file_back)

-- a URL of the file at a path, where linked modules are split off, and else of a script with its content
abbrev pub linked : (split : Bool) → Target → (path : List ℕ) → (content : Option (List ℕ)) → Option Expression
linked true target path content = option_map (λ base. plain (file_link path base)) (file_base target)
linked false target path content = option_map link content

-- `typeof N === "undefined" ? undefined : N`, and the properties that are read from it where it is there
abbrev pub present : (value : Part) → (fields : List (List ℕ)) → List Part
present value fields = unless_undefined value (host (codes "undefined") ∷ []) (value ∷ map p.Chained fields)
