-- How operands are spelled, as expressions and as words, and the words of an import's expression with operands in its places.
use Rattle.std.specs.Prelude.{ℕ, ◌+◌, ◌==◌, pos, Bool, true, false, ◌&&◌, List, [], ◌∷◌, ◌++◌, map, Option, Some, None, codes, if◌then◌else◌}
use Rattle.std.specs.List.{flat_map}
use Rattle.glue_words.specs.declared.word.Word.{Word}
use Rattle.glue_words.specs.declared.word.Word.TheVariants as w
use Rattle.glue_words.specs.declared.word.NoteKind.TheVariants.{Slash}
use Rattle.glue_words.specs.Words.{space, line_feed}
use Rattle.glue_words.specs.Functions.{parenthesised}
use Rattle.glue_words.specs.declared.punct.TheConstants as punct
use Rattle.glue_words.specs.declared.key.TheConstants as key
use Rattle.glue_imports.specs.declared.part.Part.{Part}
use Rattle.glue_imports.specs.declared.part.Part.TheVariants as part
use Rattle.glue_imports.specs.declared.part.Expression.{Expression}
use Rattle.glue_scope.specs.Properties.{property_parts}
use Rattle.values.specs.Value.{Value, Null, unsigned, is_not_zero}
use Rattle.glue_tree.specs.TreeMeaning.{Locals, value_in}
use Rattle.glue_tree.specs.declared.tree.Constant.TheVariants as constant
use Rattle.glue_tree.specs.declared.tree.BinaryOperator.TheVariants as binary
use Rattle.glue_tree.specs.Term.{Term, Lit, Const, Var, Name, Export, Two, Terms}
use Rattle.glue_tree.specs.Plainly.{terms_of}
use Rattle.glue_tree.specs.Spelling.{const_start, comma_unless, is_none}
use Rattle.glue_tree.specs.FixedWords.{semicolon}
use Rattle.glue_steps.specs.Stack.{below, item_at}

-- ---- operands

-- an operand: a text that takes no step when it is evaluated; where an operand is lacking it is `null`, and `This` is what a function is called on
pub data Plain : Type 0 where
  Missing : Plain
  This : Plain
  Local : (name : List ℕ) → Plain
  Unsigned : Plain → Plain
  NotZero : Plain → Plain

-- an operand as an expression: `null`, `this`, a local, `x >>> 0`, `x !== 0`
abbrev pub term_of : Plain → Term
term_of Missing = Const constant.Null
term_of This = Const constant.This
term_of (Local name) = Var name
term_of (Unsigned p) = Two binary.ShiftUnsigned (term_of p) (Lit (pos 0))
term_of (NotZero p) = Two binary.StrictUnequal (term_of p) (Lit (pos 0))

-- the value of an operand; that of `this` is given under this name, which no local has
abbrev pub plain_value : Locals → Plain → Value
plain_value locals Missing = Null
plain_value locals This = value_in locals (codes "this")
plain_value locals (Local name) = value_in locals name
plain_value locals (Unsigned p) = unsigned (plain_value locals p)
plain_value locals (NotZero p) = is_not_zero (plain_value locals p)

-- operands as expressions
abbrev pub terms : List Plain → Terms
terms ps = terms_of (map term_of ps)

-- ---- words of operands

-- ` >>> 0`
abbrev pub shift_words : List Word
shift_words = space ∷ w.Punct punct.SHIFT_RIGHT_UNSIGNED ∷ space ∷ w.Num (pos 0) ∷ []

-- ` !== 0`
abbrev pub unequal_words : List Word
unequal_words = space ∷ w.Punct punct.UNEQUAL ∷ space ∷ w.Num (pos 0) ∷ []

-- an operand that is a comparison, which stands in parentheses before a shift
abbrev pub is_comparison : Plain → Bool
is_comparison (NotZero p) = true
is_comparison other = false

-- a word, where it stands
abbrev pub word_if : Bool → Word → List Word
word_if true word = word ∷ []
word_if false word = []

-- the words of an operand: `null`, `this`, a local, `x >>> 0`, `x !== 0`
abbrev pub plain_words : Plain → List Word
plain_words Missing = w.Key key.NULL ∷ []
plain_words This = w.Key key.THIS ∷ []
plain_words (Local name) = w.Local name ∷ []
plain_words (Unsigned p) =
    word_if (is_comparison p) (w.Punct punct.OPEN_PAREN) ++ (plain_words p ++ (word_if (is_comparison p) (w.Punct punct.CLOSE_PAREN) ++ shift_words))
plain_words (NotZero p) = plain_words p ++ unequal_words

-- the same, in parentheses where it holds an operator
abbrev pub guarded_words : Plain → List Word
guarded_words (Unsigned p) = parenthesised (plain_words (Unsigned p))
guarded_words (NotZero p) = parenthesised (plain_words (NotZero p))
guarded_words other = plain_words other

-- `a`, or `...(a)`
abbrev pub argument_words : (spread : Bool) → Plain → List Word
argument_words true p = w.Punct punct.SPREAD ∷ parenthesised (plain_words p)
argument_words false p = plain_words p

-- arguments one after the other, with `, ` before each but the first; the last one may be spread
abbrev pub arguments_words : (first spread : Bool) → List Plain → List Word
arguments_words first spread [] = []
arguments_words first spread (p ∷ ps) =
    comma_unless first ++ (argument_words (spread && is_none ps) p ++ arguments_words false spread ps)

-- ---- words of an import's expression

-- the accesses of properties, one after the other
abbrev pub path_words : (fields : List (List ℕ)) → List Word
path_words fields = flat_map property_parts fields

-- words begin with a dot
abbrev pub begins_with_dot : List Word → Bool
begins_with_dot [] = false
begins_with_dot (w.Punct place ∷ words) = place == punct.DOT
begins_with_dot (word ∷ words) = false

-- words without the dot that they begin with, if they do
abbrev pub without_dot : List Word → List Word
without_dot words = if begins_with_dot words then below words else words

-- the access of a property of what may be absent: `?.name`, `?.["name"]`, or a computed key behind `?.`
abbrev pub chained_words : List ℕ → List Word
chained_words name = w.Punct punct.OPTIONAL ∷ without_dot (property_parts name)

-- a word, or words where there is none
abbrev pub word_or : Option Word → List Word → List Word
word_or None words = words
word_or (Some word) words = word ∷ []

-- the word of a part that is one word, whatever the operands are
abbrev pub fixed_word : Part → Option Word
fixed_word (part.Name name) = Some (w.Refer name false)
fixed_word part.Exports = Some (w.Refer (codes "wasm") false)
fixed_word (part.Member name) = Some (w.Prop name)
fixed_word (part.Literal text) = Some (w.Text text)
fixed_word (part.Number value) = Some (w.Num value)
fixed_word (part.Punct place) = Some (w.Punct place)
fixed_word (part.Key place) = Some (w.Key place)
fixed_word part.Space = Some space
fixed_word part.LineFeed = Some line_feed
fixed_word (part.Note text) = Some (w.Note Slash text)
fixed_word other = None

-- the words of a part that reads properties or an export, or goes by operands
abbrev pub operand_words : List Plain → Part → List Word
operand_words args (part.Host name fields) = w.Host name false ∷ path_words fields
operand_words args (part.Export name) = w.Refer (codes "wasm") false ∷ w.Wasm name ∷ []
operand_words args (part.Property name) = property_parts name
operand_words args (part.Chained name) = chained_words name
operand_words args (part.Operand n) = guarded_words (item_at Missing args n)
operand_words args (part.Whole n) = plain_words (item_at Missing args n)
operand_words args (part.Arguments spread) = parenthesised (arguments_words true spread args)
operand_words args (part.OtherArguments spread) = parenthesised (arguments_words true spread (below args))
operand_words args other = []

-- the words of a part that goes by locals or operands, or reads properties or an export
abbrev pub varied_words : (locals : List (List ℕ)) → List Plain → Part → List Word
varied_words locals args (part.Binding n) = w.LocalBind (item_at [] locals n) ∷ []
varied_words locals args (part.Local n) = w.Local (item_at [] locals n) ∷ []
varied_words locals args other = operand_words args other

-- the words of a part of an import's text, for these locals and operands
abbrev pub part_words : (locals : List (List ℕ)) → List Plain → Part → List Word
part_words locals args p = word_or (fixed_word p) (varied_words locals args p)

-- the words of parts, one after the other
abbrev pub parts_words : (parts : List Part) → (locals : List (List ℕ)) → (args : List Plain) → List Word
parts_words parts locals args = flat_map (part_words locals args) parts

-- `const name = `, where there is a name
abbrev pub start_words : (bound : Option (List ℕ)) → List Word
start_words None = []
start_words (Some bound) = const_start bound

-- the statements of an import's expression: those before it, with locals of these names, and its own, whose answer is bound to a local,
-- if there is one
abbrev pub import_line_words : (bound : Option (List ℕ)) → Expression → (locals : List (List ℕ)) → (args : List Plain) → List Word
import_line_words bound e locals args =
    parts_words e.prelude locals args ++ (start_words bound ++ (parts_words e.value locals args ++ semicolon ∷ []))
