-- The bytes of a module: the lists that a file has of it, and their spelling.
use Rattle.std.specs.Prelude.{ℕ, ◌==◌, ◌&&◌, ◌||◌, Bool, true, false, not, List, [], ◌∷◌, ◌++◌, length, map, count_by, codes, Option, Some, None, is_some, slice_get, nat_lt, if◌then◌else◌}
use Rattle.std.specs.List.{flat_map, filter_map, enumerate_from}
use Rattle.wasm_bytes.specs.Spelling.{list_bytes}
use Rattle.wasm_ops.specs.Numbers.{number_at}
use Rattle.wasm_code.specs.Numbers.{renumbered_ops, renumbered_body}
use Rattle.wasm_types.specs.declared.ids.FuncId.{FuncId}
use Rattle.wasm_types.specs.declared.ids.ImportId.{ImportId}
use Rattle.wasm_types.specs.declared.ids.MemoryId.{MemoryId}
use Rattle.wasm_types.specs.declared.ids.TypeId.{TypeId}
use Rattle.wasm_code.specs.declared.body.Body.{Body}
use Rattle.wasm_ops.specs.declared.ops.Numbering.{Numbering}
use Rattle.wasm_ops.specs.declared.ops.Op.{Op}
use Rattle.wasm_types.specs.declared.types.Limits.{Limits}
use Rattle.wasm_file.specs.Frames.{preamble_bytes}
use Rattle.wasm_file.specs.Spelling.{field_bytes, names_bytes, section_bytes, part_sections}
use Rattle.wasm_file.specs.declared.entries.Custom.{Custom}
use Rattle.wasm_file.specs.declared.entries.Elem.{Elem}
use Rattle.wasm_file.specs.declared.entries.ElemPlace.{ElemPlace}
use Rattle.wasm_file.specs.declared.entries.ElemPlace.TheVariants as places
use Rattle.wasm_file.specs.declared.entries.Export.{Export}
use Rattle.wasm_file.specs.declared.entries.ExportItem.{ExportItem}
use Rattle.wasm_file.specs.declared.entries.ExportItem.TheVariants as items
use Rattle.wasm_file.specs.declared.entries.FileGlobal.{FileGlobal}
use Rattle.wasm_file.specs.declared.entries.FileImport.{FileImport}
use Rattle.wasm_file.specs.declared.entries.ImportType.{ImportType}
use Rattle.wasm_file.specs.declared.entries.ImportType.TheVariants as asked
use Rattle.wasm_file.specs.declared.entries.Names.{Names}
use Rattle.wasm_file.specs.declared.entries.Parts.{Parts}
use Rattle.wasm_file.specs.declared.entries.Segment.{Segment}
use Rattle.wasm_file.specs.declared.entries.TableType.{TableType}
use Rattle.wasm_core.specs.declared.types.Func.{Func}
use Rattle.wasm_core.specs.declared.types.GlobalVar.{GlobalVar}
use Rattle.wasm_core.specs.declared.types.Import.{Import}
use Rattle.wasm_core.specs.declared.types.ImportKind.{ImportKind}
use Rattle.wasm_core.specs.declared.types.ImportKind.TheVariants as kinds
use Rattle.wasm_core.specs.declared.types.Memory.{Memory}
use Rattle.wasm_core.specs.declared.types.Table.{Table}
use Rattle.wasm_core.specs.declared.types.Tag.{Tag}
use Rattle.wasm_core.specs.Contents.{Contents}
use Rattle.wasm_emission.specs.Renumbering.{numbering}

-- ---- entries of a file

-- the entries that are there, in the order of their places
abbrev pub live : {A : Type 0} → List (Option A) → List A
live xs = filter_map (λ x. x) xs

-- what stands in the file for an entry of one's own, none for an imported one
abbrev pub own : {A : Type 0} → Option ImportId → A → Option A
own None x = Some x
own (Some i) x = None

-- the type by its number
abbrev pub file_type : Numbering → TypeId → TypeId
file_type n ty = record { 0 = number_at n.types ty.0 }

abbrev pub file_func : Numbering → FuncId → FuncId
file_func n func = record { 0 = number_at n.funcs func.0 }

-- what an import of a function that is there asks for, and so on
abbrev pub func_asked : Numbering → Option (Option Func) → Option ImportType
func_asked n (Some (Some f)) = Some (asked.Func (file_type n f.ty))
func_asked n _ = None

abbrev pub table_asked : Option (Option Table) → Option ImportType
table_asked (Some (Some t)) = Some (asked.Table t.elem t.limits)
table_asked _ = None

abbrev pub memory_asked : Option (Option Memory) → Option ImportType
memory_asked (Some (Some x)) = Some (asked.Memory x.limits)
memory_asked _ = None

abbrev pub global_asked : Option (Option GlobalVar) → Option ImportType
global_asked (Some (Some g)) = Some (asked.Global g.ty g.mutable)
global_asked _ = None

abbrev pub tag_asked : Numbering → Option (Option Tag) → Option ImportType
tag_asked n (Some (Some t)) = Some (asked.Tag (file_type n t.ty))
tag_asked n _ = None

-- what an import asks for: the type of its item, none where the item isn't there
unfoldable pub import_asked : Contents → Numbering → ImportKind → Option ImportType
import_asked m n (kinds.Func i) = func_asked n (slice_get m.funcs i.0)
import_asked m n (kinds.Table i) = table_asked (slice_get m.tables i.0)
import_asked m n (kinds.Memory i) = memory_asked (slice_get m.memories i.0)
import_asked m n (kinds.Global i) = global_asked (slice_get m.globals i.0)
import_asked m n (kinds.Tag i) = tag_asked n (slice_get m.tags i.0)

abbrev pub import_of_type : Import → Option ImportType → Option FileImport
import_of_type i (Some ty) = Some (record { «module» = i.«module»; name = i.name; ty = ty })
import_of_type i None = None

-- an import with the type of its item, none where the item isn't there
abbrev pub file_import : Contents → Numbering → Import → Option FileImport
file_import m n i = import_of_type i (import_asked m n i.kind)

-- the body, where there is none one without locals and operators
abbrev pub body_or_empty : Option Body → Body
body_or_empty (Some b) = b
body_or_empty None = record { locals = []; ops = [] }

abbrev pub own_type : Numbering → Func → Option TypeId
own_type n f = own f.«import» (file_type n f.ty)

abbrev pub own_body : Numbering → Func → Option Body
own_body n f = own f.«import» (renumbered_body n (body_or_empty f.body))

abbrev pub own_table : Table → Option TableType
own_table t = own t.«import» (record { elem = t.elem; limits = t.limits })

abbrev pub own_memory : Memory → Option Limits
own_memory x = own x.«import» x.limits

abbrev pub own_tag : Numbering → Tag → Option TypeId
own_tag n t = own t.«import» (file_type n t.ty)

abbrev pub own_global : Numbering → GlobalVar → Option FileGlobal
own_global n g = own g.«import» (record { ty = g.ty; mutable = g.mutable; init = renumbered_ops n g.init })

-- what is exported, by its number
abbrev pub file_item : Numbering → ExportItem → ExportItem
file_item n (items.Func i) = items.Func (record { 0 = number_at n.funcs i.0 })
file_item n (items.Table i) = items.Table (record { 0 = number_at n.tables i.0 })
file_item n (items.Memory i) = items.Memory (record { 0 = number_at n.memories i.0 })
file_item n (items.Global i) = items.Global (record { 0 = number_at n.globals i.0 })
file_item n (items.Tag i) = items.Tag (record { 0 = number_at n.tags i.0 })

abbrev pub file_export : Numbering → Export → Export
file_export n e = record { name = e.name; item = file_item n e.item }

abbrev pub file_place : Numbering → ElemPlace → ElemPlace
file_place n (places.Active table init) = places.Active (record { 0 = number_at n.tables table.0 }) (renumbered_ops n init)
file_place n places.Passive = places.Passive
file_place n places.Declared = places.Declared

-- an element segment with the numbers of what it names
abbrev pub file_elem : Numbering → Elem → Elem
file_elem n e = record { place = file_place n e.place; ty = e.ty; funcs = map (file_func n) e.funcs; exprs = map (renumbered_ops n) e.exprs }

abbrev pub file_segment_place : Numbering → Option (MemoryId × List Op) → Option (MemoryId × List Op)
file_segment_place n (Some p) = Some (record { 0 = number_at n.memories p.0.0 }, renumbered_ops n p.1)
file_segment_place n None = None

-- a data segment with the numbers of what it names
abbrev pub file_segment : Numbering → Segment → Segment
file_segment n s = record { place = file_segment_place n s.place; bytes = s.bytes }

abbrev pub file_start : Numbering → Option FuncId → Option FuncId
file_start n (Some func) = Some (file_func n func)
file_start n None = None

-- the number of segments, none without any
abbrev pub some_count : ℕ → Option ℕ
some_count n = if n == 0 then None else Some n

-- ---- custom sections

-- a number with a name, none without one
abbrev pub with_number : ℕ → Option (List ℕ) → Option (FuncId × List ℕ)
with_number i (Some name) = Some (record { 0 = i }, name)
with_number i None = None

-- it is imported, or it isn't, as is asked
abbrev pub is_asked : Bool → Option ImportId → Bool
is_asked true i = is_some i
is_asked false i = not (is_some i)

-- the number and the name of the function at a place, where it has one and is imported, or not, as is asked
abbrev pub name_at : List ℕ → Bool → ℕ × Option Func → Option (FuncId × List ℕ)
name_at numbers imported (place, Some f) = if is_asked imported f.«import» then with_number (number_at numbers place) f.name else None
name_at numbers imported (place, None) = None

abbrev pub names_among : List ℕ → Bool → List (Option Func) → List (FuncId × List ℕ)
names_among numbers imported funcs = filter_map (name_at numbers imported) (enumerate_from 0 funcs)

-- the names of live functions in the order of their numbers: imported ones first
unfoldable pub func_names : List ℕ → List (Option Func) → List (FuncId × List ℕ)
func_names numbers funcs = names_among numbers true funcs ++ names_among numbers false funcs

-- the names that the file gives
abbrev pub file_names : Contents → Numbering → Names
file_names m n = record { «module» = m.name; funcs = func_names n.funcs m.funcs }

abbrev pub has_names : Names → Bool
has_names n = is_some n.«module» || not (length n.funcs == 0)

-- the name section, where it is wanted and there is a name
unfoldable pub name_customs : Bool → Names → List Custom
name_customs wanted n = if wanted && has_names n then record { name = codes "name"; bytes = names_bytes n } ∷ [] else []

-- the producers section, where it is wanted and there is a field
unfoldable pub producer_customs : Contents → List Custom
producer_customs m = if m.config.producers && not (length m.producers == 0)
    then record { name = codes "producers"; bytes = list_bytes field_bytes m.producers } ∷ [] else []

-- the name section, the producers section, and the others in order
unfoldable pub file_customs : Numbering → Contents → List Custom
file_customs n m = name_customs m.config.names (file_names m n) ++ (producer_customs m ++ m.customs)

-- ---- the file

-- The lists that a file has of a module: live entries, which name others by their numbers.
unfoldable pub filed_by : Numbering → Contents → Parts
filed_by n m = record {
  types = live m.types;
  imports = filter_map (file_import m n) (live m.imports);
  functions = filter_map (own_type n) (live m.funcs);
  tables = filter_map own_table (live m.tables);
  memories = filter_map own_memory (live m.memories);
  tags = filter_map (own_tag n) (live m.tags);
  globals = filter_map (own_global n) (live m.globals);
  exports = map (file_export n) (live m.exports);
  start = file_start n m.start;
  elems = map (file_elem n) (live m.elems);
  data_count = some_count (count_by is_some m.segments);
  bodies = filter_map (own_body n) (live m.funcs);
  segments = map (file_segment n) (live m.segments);
  customs = file_customs n m;
}

abbrev pub filed : Contents → Parts
filed m = filed_by (numbering m) m

-- the id and the content of each section, in the order in which they are written
unfoldable pub section_contents : Contents → List (ℕ × List ℕ)
section_contents m = part_sections (filed m)

-- the bytes of a module
unfoldable pub bytes_of : Contents → List ℕ
bytes_of m = preamble_bytes ++ flat_map section_bytes (section_contents m)

-- the id of the first section whose content has more bytes than so many
unfoldable pub first_too_large : ℕ → List (ℕ × List ℕ) → Option ℕ
first_too_large longest [] = None
first_too_large longest (s ∷ ss) = if nat_lt longest (length s.1) then Some s.0 else first_too_large longest ss

-- the greatest length of a section's content, in bytes
abbrev pub longest_content : ℕ
longest_content = 4294967295

-- the id of the first section that is too long
unfoldable pub too_large : Contents → Option ℕ
too_large m = first_too_large longest_content (section_contents m)

-- ---- what writing an entry adds

-- what stands in the file for an entry, none where there is none
abbrev pub filed_at : {A B : Type 0} → (A → Option B) → Option A → Option B
filed_at file (Some x) = file x
filed_at file None = None

-- the bytes of an entry, none where there is none
abbrev pub some_bytes : {A : Type 0} → (A → List ℕ) → Option A → List ℕ
some_bytes spell (Some x) = spell x
some_bytes spell None = []
