-- The one spelling of a file's parts that is written.
use Rattle.std.specs.Prelude.{ℕ, ◌+◌, ◌*◌, ◌==◌, Bool, true, false, not, ◌||◌, ◌&&◌, List, [], ◌∷◌, ◌++◌, length, map, Option, Some, None, if◌then◌else◌}
use Rattle.std.specs.List.{flat_map}
use Rattle.wasm_bytes.specs.Numbers.{number_bytes}
use Rattle.wasm_bytes.specs.Spelling.{list_bytes, name_bytes, framed_bytes}
use Rattle.wasm_types.specs.Types.{code_of}
use Rattle.wasm_types.specs.Spelling.{func_type_bytes}
use Rattle.wasm_code.specs.Spelling.{expression_bytes, code_bytes}
use Rattle.wasm_types.specs.declared.ids.FuncId.{FuncId}
use Rattle.wasm_types.specs.declared.ids.MemoryId.{MemoryId}
use Rattle.wasm_types.specs.declared.ids.TypeId.{TypeId}
use Rattle.wasm_ops.specs.declared.ops.Op.{Op}
use Rattle.wasm_types.specs.declared.types.Limits.{Limits}
use Rattle.wasm_types.specs.declared.types.ValType.{ValType}
use Rattle.wasm_types.specs.declared.types.ValType.TheVariants.{FuncRef}
use Rattle.wasm_file.specs.declared.entries.Custom.{Custom}
use Rattle.wasm_file.specs.declared.entries.Elem.{Elem}
use Rattle.wasm_file.specs.declared.entries.ElemPlace.{ElemPlace}
use Rattle.wasm_file.specs.declared.entries.ElemPlace.TheVariants as places
use Rattle.wasm_file.specs.declared.entries.Export.{Export}
use Rattle.wasm_file.specs.declared.entries.ExportItem.{ExportItem}
use Rattle.wasm_file.specs.declared.entries.ExportItem.TheVariants as items
use Rattle.wasm_file.specs.declared.entries.FileGlobal.{FileGlobal}
use Rattle.wasm_file.specs.declared.entries.FileImport.{FileImport}
use Rattle.wasm_file.specs.declared.entries.ImportType.{ImportType}
use Rattle.wasm_file.specs.declared.entries.ImportType.TheVariants as asked
use Rattle.wasm_file.specs.declared.entries.Names.{Names}
use Rattle.wasm_file.specs.declared.entries.Parts.{Parts}
use Rattle.wasm_file.specs.declared.entries.ProducerField.{ProducerField}
use Rattle.wasm_file.specs.declared.entries.ProducerValue.{ProducerValue}
use Rattle.wasm_file.specs.declared.entries.Segment.{Segment}
use Rattle.wasm_file.specs.declared.entries.TableType.{TableType}

-- ---- types

-- 1 for a truth that holds, 0 for another
abbrev pub truth_bit : Bool → ℕ
truth_bit true = 1
truth_bit false = 0

-- there is a maximum
abbrev pub has_max : Option ℕ → Bool
has_max (Some n) = true
has_max None = false

-- a bit for a maximum, one for a shared one, one for a wide one
abbrev pub limits_flag : Limits → ℕ
limits_flag l = truth_bit (has_max l.max) + 2 * truth_bit l.shared + 4 * truth_bit l.wide

abbrev pub max_bytes : Option ℕ → List ℕ
max_bytes (Some n) = number_bytes n
max_bytes None = []

-- the flag, the minimum, and the maximum where there is one
unfoldable pub limits_bytes : Limits → List ℕ
limits_bytes l = limits_flag l ∷ (number_bytes l.min ++ max_bytes l.max)

-- a reference type and limits
unfoldable pub table_bytes : TableType → List ℕ
table_bytes t = code_of t.elem ∷ limits_bytes t.limits

-- a value type, and whether it can be set
unfoldable pub global_type_bytes : ValType → Bool → List ℕ
global_type_bytes ty mutable = code_of ty ∷ truth_bit mutable ∷ []

-- a byte that is kept for later, and a type
unfoldable pub tag_bytes : TypeId → List ℕ
tag_bytes ty = 0 ∷ number_bytes ty.0

-- ---- entries

-- a kind, and a type of that kind
unfoldable pub import_type_bytes : ImportType → List ℕ
import_type_bytes (asked.Func ty) = 0 ∷ number_bytes ty.0
import_type_bytes (asked.Table elem limits) = 1 ∷ table_bytes (record { elem = elem; limits = limits })
import_type_bytes (asked.Memory limits) = 2 ∷ limits_bytes limits
import_type_bytes (asked.Global ty mutable) = 3 ∷ global_type_bytes ty mutable
import_type_bytes (asked.Tag ty) = 4 ∷ tag_bytes ty

unfoldable pub import_bytes : FileImport → List ℕ
import_bytes i = name_bytes i.«module» ++ (name_bytes i.name ++ import_type_bytes i.ty)

-- the type of a function
unfoldable pub type_id_bytes : TypeId → List ℕ
type_id_bytes ty = number_bytes ty.0

unfoldable pub func_id_bytes : FuncId → List ℕ
func_id_bytes func = number_bytes func.0

-- a type, and the expression of the first value
unfoldable pub global_bytes : FileGlobal → List ℕ
global_bytes g = global_type_bytes g.ty g.mutable ++ expression_bytes g.init

-- a kind and an index
unfoldable pub item_bytes : ExportItem → List ℕ
item_bytes (items.Func i) = 0 ∷ number_bytes i.0
item_bytes (items.Table i) = 1 ∷ number_bytes i.0
item_bytes (items.Memory i) = 2 ∷ number_bytes i.0
item_bytes (items.Global i) = 3 ∷ number_bytes i.0
item_bytes (items.Tag i) = 4 ∷ number_bytes i.0

unfoldable pub export_bytes : Export → List ℕ
export_bytes e = name_bytes e.name ++ item_bytes e.item

-- ---- segments

abbrev pub is_func_ref : ValType → Bool
is_func_ref FuncRef = true
is_func_ref _ = false

-- the entries are expressions: there are some, or the type asks for them
abbrev pub has_exprs : Elem → Bool
has_exprs e = not (length e.exprs == 0) || not (is_func_ref e.ty)

-- the two low bits of the flag: 0 leaves out table and type, which are then table 0 and functions
abbrev pub place_flag : ValType → ElemPlace → ℕ
place_flag ty (places.Active table init) = if (table.0 == 0) && is_func_ref ty then 0 else 2
place_flag ty places.Passive = 1
place_flag ty places.Declared = 3

-- the least flag that fits, with its third bit for expressions
abbrev pub elem_flag : Elem → ℕ
elem_flag e = place_flag e.ty e.place + 4 * truth_bit (has_exprs e)

-- the table, unless it is left out, and the expression of the place in it
abbrev pub place_bytes : ValType → ElemPlace → List ℕ
place_bytes ty (places.Active table init) = (if (table.0 == 0) && is_func_ref ty then [] else number_bytes table.0) ++ expression_bytes init
place_bytes ty _ = []

-- what the entries are, unless it is left out: a byte 0 for functions, a type for expressions
abbrev pub elem_kind_bytes : Elem → List ℕ
elem_kind_bytes e = if place_flag e.ty e.place == 0 then [] else if has_exprs e then code_of e.ty ∷ [] else 0 ∷ []

-- the list of expressions or of functions
abbrev pub elem_entries_bytes : Elem → List ℕ
elem_entries_bytes e = if has_exprs e then list_bytes expression_bytes e.exprs else list_bytes func_id_bytes e.funcs

unfoldable pub elem_bytes : Elem → List ℕ
elem_bytes e = elem_flag e ∷ (place_bytes e.ty e.place ++ (elem_kind_bytes e ++ elem_entries_bytes e))

-- the least flag that fits, the memory unless it is memory 0, and the expression of the place in it
abbrev pub segment_place_bytes : Option (MemoryId × List Op) → List ℕ
segment_place_bytes None = 1 ∷ []
segment_place_bytes (Some p) = (if p.0.0 == 0 then 0 ∷ [] else 2 ∷ number_bytes p.0.0) ++ expression_bytes p.1

unfoldable pub segment_bytes : Segment → List ℕ
segment_bytes s = segment_place_bytes s.place ++ framed_bytes s.bytes

-- ---- custom sections

unfoldable pub custom_bytes : Custom → List ℕ
custom_bytes c = name_bytes c.name ++ c.bytes

unfoldable pub value_bytes : ProducerValue → List ℕ
value_bytes v = name_bytes v.name ++ name_bytes v.version

unfoldable pub field_bytes : ProducerField → List ℕ
field_bytes f = name_bytes f.name ++ list_bytes value_bytes f.values

-- an id, and content behind its length
unfoldable pub section_bytes : ℕ × List ℕ → List ℕ
section_bytes s = s.0 ∷ framed_bytes s.1

-- the name of a function
unfoldable pub func_name_bytes : FuncId × List ℕ → List ℕ
func_name_bytes n = number_bytes n.0.0 ++ name_bytes n.1

-- the subsection of the module's name, none where it has none
abbrev pub module_name_bytes : Option (List ℕ) → List ℕ
module_name_bytes (Some n) = section_bytes (0, name_bytes n)
module_name_bytes None = []

-- the subsection of the functions' names, none where there is no name
abbrev pub func_names_bytes : List (FuncId × List ℕ) → List ℕ
func_names_bytes names = if length names == 0 then [] else section_bytes (1, list_bytes func_name_bytes names)

-- the content of a name section, behind its own name
unfoldable pub names_bytes : Names → List ℕ
names_bytes n = module_name_bytes n.«module» ++ func_names_bytes n.funcs

-- ---- sections

-- a section of so many entries with these bytes, none without any
abbrev pub counted_section : ℕ → ℕ → List ℕ → List (ℕ × List ℕ)
counted_section id count bytes = if count == 0 then [] else (id, number_bytes count ++ bytes) ∷ []

-- a section of a list, none where the list is empty
unfoldable pub list_section : {A : Type 0} → ℕ → (A → List ℕ) → List A → List (ℕ × List ℕ)
list_section id spell xs = counted_section id (length xs) (flat_map spell xs)

-- the section of the start function
abbrev pub start_section : Option FuncId → List (ℕ × List ℕ)
start_section (Some func) = (8, func_id_bytes func) ∷ []
start_section None = []

-- the section that tells the number of segments
abbrev pub data_count_section : Option ℕ → List (ℕ × List ℕ)
data_count_section (Some n) = (12, number_bytes n) ∷ []
data_count_section None = []

abbrev pub custom_section : Custom → ℕ × List ℕ
custom_section c = (0, custom_bytes c)

-- types, imports, functions and tables
unfoldable pub first_sections : Parts → List (ℕ × List ℕ)
first_sections p = list_section 1 func_type_bytes p.types
    ++ (list_section 2 import_bytes p.imports
    ++ (list_section 3 type_id_bytes p.functions
    ++ list_section 4 table_bytes p.tables))

-- memories, tags, globals and exports
unfoldable pub middle_sections : Parts → List (ℕ × List ℕ)
middle_sections p = list_section 5 limits_bytes p.memories
    ++ (list_section 13 tag_bytes p.tags
    ++ (list_section 6 global_bytes p.globals
    ++ list_section 7 export_bytes p.exports))

-- the start function, element segments, the number of data segments, bodies and data segments
unfoldable pub last_sections : Parts → List (ℕ × List ℕ)
last_sections p = start_section p.start
    ++ (list_section 9 elem_bytes p.elems
    ++ (data_count_section p.data_count
    ++ (list_section 10 code_bytes p.bodies
    ++ list_section 11 segment_bytes p.segments)))

-- the id and the content of each section, in the order in which they stand in a file
unfoldable pub part_sections : Parts → List (ℕ × List ℕ)
part_sections p = first_sections p ++ (middle_sections p ++ (last_sections p ++ map custom_section p.customs))
