-- The expressions of intrinsics.
use Rattle.std.specs.Prelude.{ℕ, Bool, true, false, not, List, [], ◌∷◌, codes, Option, Some, None, option_map}
use Rattle.glue_words.specs.declared.punct.TheConstants as punct
use Rattle.glue_words.specs.declared.key.TheConstants as key
use Rattle.glue_shared.specs.declared.import.Intrinsic.{Intrinsic}
use Rattle.glue_shared.specs.declared.import.Intrinsic.TheVariants as i
use Rattle.glue_shared.specs.declared.settings.Target.{Target}
use Rattle.glue_shared.specs.declared.settings.Target.TheVariants as targets
use Rattle.glue_imports.specs.declared.part.Part.{Part}
use Rattle.glue_imports.specs.declared.part.Part.TheVariants as p

-- the operator that stands between two operands
abbrev pub between_operator : Intrinsic → Option ℕ
between_operator i.JsvalEq = Some punct.EQUAL
between_operator i.JsvalLooseEq = Some punct.LOOSE_EQUAL
between_operator i.BitAnd = Some punct.BIT_AND
between_operator i.BitOr = Some punct.BIT_OR
between_operator i.BitXor = Some punct.BIT_XOR
between_operator i.Shl = Some punct.SHIFT_LEFT
between_operator i.Shr = Some punct.SHIFT_RIGHT
between_operator i.UnsignedShr = Some punct.SHIFT_RIGHT_UNSIGNED
between_operator i.Add = Some punct.PLUS
between_operator i.Sub = Some punct.MINUS
between_operator i.Div = Some punct.DIVIDE
between_operator i.Mul = Some punct.TIMES
between_operator i.Rem = Some punct.REMAINDER
between_operator i.Pow = Some punct.POWER
between_operator i.LT = Some punct.LESS
between_operator i.LE = Some punct.AT_MOST
between_operator i.GE = Some punct.AT_LEAST
between_operator i.GT = Some punct.GREATER
between_operator other = None

-- the operator that stands before one operand
abbrev pub front_operator : Intrinsic → Option ℕ
front_operator i.IsFalsy = Some punct.NOT
front_operator i.Neg = Some punct.MINUS
front_operator i.BitNot = Some punct.BIT_NOT
front_operator other = None

-- the type that the operator `typeof` is to give of one operand
abbrev pub tested_type : Intrinsic → Option (List ℕ)
tested_type i.IsFunction = Some (codes "function")
tested_type i.IsSymbol = Some (codes "symbol")
tested_type i.IsString = Some (codes "string")
tested_type i.IsBigInt = Some (codes "bigint")
tested_type other = None

-- `a op b`
abbrev pub between : ℕ → List Part
between op = p.Operand 0 ∷ p.Space ∷ p.Punct op ∷ p.Space ∷ p.Operand 1 ∷ []

-- `op a`, without a space
abbrev pub before_one : ℕ → List Part
before_one op = p.Punct op ∷ p.Operand 0 ∷ []

-- `typeof(a) === "type"`
abbrev pub type_test : List ℕ → List Part
type_test name =
    p.Key key.TYPEOF ∷ p.Punct punct.OPEN_PAREN ∷ p.Whole 0 ∷ p.Punct punct.CLOSE_PAREN
    ∷ p.Space ∷ p.Punct punct.EQUAL ∷ p.Space ∷ p.Literal name ∷ []

-- `a op ` before what it is compared with
abbrev pub compared : ℕ → Part → List Part
compared op other = p.Operand 0 ∷ p.Space ∷ p.Punct op ∷ p.Space ∷ other ∷ []

-- a name of the host, without a property
abbrev pub host : List ℕ → Part
host name = p.Host name []

-- an operand by itself: as it is on the right side of `=`
abbrev pub same : Bool → List Part
same true = p.Whole 0 ∷ []
same false = p.Operand 0 ∷ []

-- `new Uint8Array(b.buffer, b.byteOffset, b.byteLength).set(a)`
abbrev pub copy_to_array : List Part
copy_to_array =
    p.Key key.NEW ∷ p.Space ∷ host (codes "Uint8Array") ∷ p.Punct punct.OPEN_PAREN
    ∷ p.Operand 1 ∷ p.Property (codes "buffer") ∷ p.Punct punct.COMMA ∷ p.Space
    ∷ p.Operand 1 ∷ p.Property (codes "byteOffset") ∷ p.Punct punct.COMMA ∷ p.Space
    ∷ p.Operand 1 ∷ p.Property (codes "byteLength") ∷ p.Punct punct.CLOSE_PAREN
    ∷ p.Property (codes "set") ∷ p.Punct punct.OPEN_PAREN ∷ p.Whole 0 ∷ p.Punct punct.CLOSE_PAREN ∷ []

-- `throw new Error(a)`
abbrev pub thrown_error : List Part
thrown_error =
    p.Key key.THROW ∷ p.Space ∷ p.Key key.NEW ∷ p.Space ∷ host (codes "Error")
    ∷ p.Punct punct.OPEN_PAREN ∷ p.Whole 0 ∷ p.Punct punct.CLOSE_PAREN ∷ []

-- `debugString(a)`
abbrev pub debug_text : List Part
debug_text = p.Name (codes "debugString") ∷ p.Punct punct.OPEN_PAREN ∷ p.Whole 0 ∷ p.Punct punct.CLOSE_PAREN ∷ []

-- `decodeText(a)`
abbrev pub decoded_text : List Part
decoded_text = p.Name (codes "decodeText") ∷ p.Punct punct.OPEN_PAREN ∷ p.Whole 0 ∷ p.Punct punct.CLOSE_PAREN ∷ []

-- `new PanicError(a)`
abbrev pub panic_error : List Part
panic_error =
    p.Key key.NEW ∷ p.Space ∷ p.Name (codes "PanicError") ∷ p.Punct punct.OPEN_PAREN ∷ p.Whole 0 ∷ p.Punct punct.CLOSE_PAREN ∷ []

-- the expressions of other intrinsics, by whether the answer is bound to a local. `Reinit` gives `undefined` where no module is made
-- anew; `Throw` and `Rethrow` are statements
abbrev pub other_intrinsic : Bool → Intrinsic → Option (List Part)
other_intrinsic bound i.IsUndefined = Some (compared punct.EQUAL (host (codes "undefined")))
other_intrinsic bound i.IsNull = Some (compared punct.EQUAL (p.Key key.NULL))
other_intrinsic bound i.IsNullOrUndefined = Some (compared punct.LOOSE_EQUAL (p.Key key.NULL))
other_intrinsic bound i.Typeof = Some (p.Key key.TYPEOF ∷ p.Space ∷ p.Operand 0 ∷ [])
other_intrinsic bound i.InOperator = Some (p.Operand 0 ∷ p.Space ∷ p.Key key.IN ∷ p.Space ∷ p.Operand 1 ∷ [])
other_intrinsic bound i.ObjectCloneRef = Some (same bound)
other_intrinsic bound i.ObjectDropRef = Some (same bound)
other_intrinsic bound i.Exports = Some (p.Exports ∷ [])
other_intrinsic bound i.Reinit = Some (host (codes "undefined") ∷ [])
other_intrinsic bound i.CopyToTypedArray = Some copy_to_array
other_intrinsic bound i.DebugString = Some debug_text
other_intrinsic bound i.StringFromUtf8Lossy = Some decoded_text
other_intrinsic bound i.PanicError = Some panic_error
other_intrinsic bound i.Throw = Some thrown_error
other_intrinsic bound i.Rethrow = Some (p.Key key.THROW ∷ p.Space ∷ p.Operand 0 ∷ [])
other_intrinsic bound other = None

-- ---- values that have a name of the file

-- the glue file has the name `wasmModule` on this target: loading declares it, or a line that imports it
abbrev pub declares_module : Target → Bool
declares_module targets.Web = true
declares_module (targets.NoModules global) = true
declares_module (targets.Node is_module) = true
declares_module targets.Module = true
declares_module other = false

-- and `wasmInstance`
abbrev pub declares_instance : Target → Bool
declares_instance targets.Web = true
declares_instance (targets.NoModules global) = true
declares_instance (targets.Node is_module) = true
declares_instance targets.Deno = true
declares_instance targets.Module = true
declares_instance other = false

-- a name, where the file has it
abbrev pub name_if : (declared : Bool) → (name : List ℕ) → Option (List ℕ)
name_if true name = Some name
name_if false name = None

-- the name that the file has for the value of an intrinsic
abbrev pub loaded_name : Target → Intrinsic → Option (List ℕ)
loaded_name target i.Module = name_if (declares_module target) (codes "wasmModule")
loaded_name target i.Instance = name_if (declares_instance target) (codes "wasmInstance")
loaded_name target other = None

-- an intrinsic for whose value the file has a name on other targets, and not on this one
abbrev pub lacks_value : Target → Intrinsic → Bool
lacks_value target i.Module = not (declares_module target)
lacks_value target i.Instance = not (declares_instance target)
lacks_value target other = false

-- ---- all of them

-- what one table has, or else another
abbrev pub or_else : {A : Type 0} → Option A → Option A → Option A
or_else (Some found) other = Some found
or_else None other = other

-- the expression of an intrinsic
abbrev pub intrinsic_parts : (bound : Bool) → Intrinsic → Option (List Part)
intrinsic_parts bound name =
    or_else (option_map between (between_operator name))
    (or_else (option_map before_one (front_operator name))
    (or_else (option_map type_test (tested_type name))
    (other_intrinsic bound name)))
