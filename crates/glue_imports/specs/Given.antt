-- What imports give of the module itself: its first memory, and its tables.
use Rattle.std.specs.Prelude.{ℕ, ◌+◌, pos, Bool, true, false, List, [], ◌∷◌, ◌++◌, codes, Option, Some, None, option_map}
use Rattle.wasm_core.specs.entries.ExportItem.{ExportItem}
use Rattle.wasm_core.specs.entries.ExportItem.TheVariants as items
use Rattle.glue_words.specs.declared.punct.TheConstants as punct
use Rattle.glue_words.specs.declared.key.TheConstants as key
use Rattle.glue_shared.specs.declared.aux.StaticSlot.{StaticSlot}
use Rattle.glue_shared.specs.declared.aux.StaticSlot.TheVariants as slot
use Rattle.glue_shared.specs.declared.description.Lowered.{Lowered}
use Rattle.glue_shared.specs.declared.import.AuxImport.{AuxImport}
use Rattle.glue_shared.specs.declared.import.AuxImport.TheVariants as w
use Rattle.glue_shared.specs.declared.import.Intrinsic.{Intrinsic}
use Rattle.glue_shared.specs.declared.import.Intrinsic.TheVariants as i
use Rattle.glue_shared.specs.Roots.{first_memory, live_item}
use Rattle.glue_imports.specs.declared.given.Given as declared
use Rattle.glue_imports.specs.declared.part.Part.{Part}
use Rattle.glue_imports.specs.declared.part.Part.TheVariants as p
use Rattle.glue_imports.specs.declared.part.Expression.{Expression}
use Rattle.glue_imports.specs.Intrinsics.{host}
use Rattle.glue_imports.specs.Preludes.{plain, const_line, line_end}

-- ---- the item that an import gives

-- the intrinsics that give an item of the module, and the item that each names
abbrev pub named_item : Lowered → Intrinsic → Option ExportItem
named_item l i.Memory = first_memory l.«module»
named_item l i.FunctionTable = option_map items.Table l.aux.function_table
named_item l i.InitExternrefTable = option_map items.Table l.aux.externref_table
named_item l other = None

-- the item of the module that an import gives, where it stands
abbrev pub given_item : Lowered → AuxImport → Option ExportItem
given_item l (w.Intrinsic name) = live_item l.«module» (named_item l name)
given_item l other = None

-- an import that gives an item of the module
abbrev pub is_giving : Intrinsic → Bool
is_giving i.Memory = true
is_giving i.FunctionTable = true
is_giving i.InitExternrefTable = true
is_giving other = false

abbrev pub gives_item : AuxImport → Bool
gives_item (w.Intrinsic name) = is_giving name
gives_item other = false

-- ---- what an expression goes by of the module and its description

-- the name of the export that gives the item, and the slots of the table of references, each with its text or without one
pub record Given : Type 0 where
  pub export : List ℕ
  pub slots : List StaticSlot

-- those that are handed in
abbrev pub handed_in : declared.Given → Given
handed_in g = record { export = g.export.now; slots = g.slots.now }

-- no export and no slots
abbrev pub nothing_given : Given
nothing_given = record { export = []; slots = [] }

-- ---- the table of references, filled

-- `table.set(place, value)`, of the first local
abbrev pub set_slot : ℕ → Part → List Part
set_slot place value =
    p.Local 0 ∷ p.Property (codes "set") ∷ p.Punct punct.OPEN_PAREN ∷ p.Number (pos place) ∷ p.Punct punct.COMMA ∷ p.Space ∷ value
    ∷ p.Punct punct.CLOSE_PAREN ∷ []

-- `table.set(place, "text")`
abbrev pub set_text : ℕ × List ℕ → List Part
set_text slot = set_slot slot.0 (p.Literal slot.1)

-- the slots that have a text, each with its place, places being counted from a number
abbrev pub texts_from : ℕ → List StaticSlot → List (ℕ × List ℕ)
texts_from place [] = []
texts_from place (slot.Null ∷ slots) = texts_from (place + 1) slots
texts_from place (slot.Text text ∷ slots) = (place, text) ∷ texts_from (place + 1) slots

-- a first expression and one for each of these texts: all but the last as statements, and the last one
abbrev pub statements : List Part → List (ℕ × List ℕ) → List Part
statements first [] = []
statements first (slot ∷ slots) = first ++ (line_end ++ statements (set_text slot) slots)

abbrev pub last_of : List Part → List (ℕ × List ℕ) → List Part
last_of first [] = first
last_of first (slot ∷ slots) = last_of (set_text slot) slots

-- `const table = wasm.name;`, and the constants that stand in a table of references: `undefined` at 0, and from 1024 on `undefined`, `null`,
-- `true` and `false`, of which the last is no statement yet
abbrev pub constants_set : (export : List ℕ) → List Part
constants_set export =
    const_line (p.Export export)
    ++ (set_slot 0 (host (codes "undefined")) ++ (line_end
    ++ (set_slot 1024 (host (codes "undefined")) ++ (line_end
    ++ (set_slot 1025 (p.Key key.NULL) ++ (line_end
    ++ (set_slot 1026 (p.Key key.TRUE) ++ line_end)))))))

abbrev pub false_set : List Part
false_set = set_slot 1027 (p.Key key.FALSE)

-- the table with the constants, and behind them the texts of the slots, the last one as the expression
abbrev pub filled_table : Given → Expression
filled_table g = record {
  locals = codes "table" ∷ [];
  prelude = constants_set g.export ++ statements false_set (texts_from 1028 g.slots);
  value = last_of false_set (texts_from 1028 g.slots);
}

-- ---- intrinsics

-- `wasm.name`
abbrev pub exported : List ℕ → Expression
exported name = plain (p.Export name ∷ [])

-- where references stand in a table of the module, there is one to fill
abbrev pub table_filled : (externref : Bool) → Given → Option Expression
table_filled true g = Some (filled_table g)
table_filled false g = None

-- the expressions of intrinsics that give an item of the module
abbrev pub item_expression : (externref : Bool) → Given → Intrinsic → Option Expression
item_expression externref g i.Memory = Some (exported g.export)
item_expression externref g i.FunctionTable = Some (exported g.export)
item_expression externref g i.InitExternrefTable = table_filled externref g
item_expression externref g other = None
