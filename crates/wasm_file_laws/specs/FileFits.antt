-- Which lists of a file are read again once they are written.
use Rattle.std.specs.Prelude.{◌≡◌, ℕ, ◌+◌, ◌^◌, ◌<◌, ◌≤◌, ⊤, Bool, true, false, List, [], ◌∷◌, ◌++◌, map, length, Option, Some, None, slice_get, if◌then◌else◌}
use Rattle.std.specs.List.{AllByRecursion, flat_map}
use Rattle.std.specs.Str.{is_utf8}
use Rattle.wasm_bytes.specs.declared.counts.Counts.{Counts}
use Rattle.wasm_types.specs.Types.{is_reference}
use Rattle.wasm_ops_laws.specs.Fits.{IsIndex, FitsInitial, FitsBody, joined_body}
use Rattle.wasm_code.specs.Locals.{joined_runs}
use Rattle.wasm_types.specs.declared.ids.FuncId.{FuncId}
use Rattle.wasm_types.specs.declared.ids.MemoryId.{MemoryId}
use Rattle.wasm_types.specs.declared.ids.TypeId.{TypeId}
use Rattle.wasm_code.specs.declared.body.Body.{Body}
use Rattle.wasm_ops.specs.declared.ops.Op.{Op}
use Rattle.wasm_types.specs.declared.types.FuncType.{FuncType}
use Rattle.wasm_types.specs.declared.types.Limits.{Limits}
use Rattle.wasm_file.specs.Entries.{any_limit, memory_limit}
use Rattle.wasm_file.specs.Frames.{preamble_bytes}
use Rattle.wasm_file.specs.Parts.{most, number_of, is_func, is_table, is_memory, is_global, is_tag, counts_of, params_of, is_plain}
use Rattle.wasm_file.specs.Sections.{type_at, is_told}
use Rattle.wasm_file.specs.Spelling.{has_exprs, section_bytes, part_sections}
use Rattle.wasm_file.specs.declared.entries.Custom.{Custom}
use Rattle.wasm_file.specs.declared.entries.Elem.{Elem}
use Rattle.wasm_file.specs.declared.entries.ElemPlace.{ElemPlace}
use Rattle.wasm_file.specs.declared.entries.ElemPlace.TheVariants as places
use Rattle.wasm_file.specs.declared.entries.Export.{Export}
use Rattle.wasm_file.specs.declared.entries.ExportItem.{ExportItem}
use Rattle.wasm_file.specs.declared.entries.ExportItem.TheVariants as items
use Rattle.wasm_file.specs.declared.entries.FileGlobal.{FileGlobal}
use Rattle.wasm_file.specs.declared.entries.FileImport.{FileImport}
use Rattle.wasm_file.specs.declared.entries.ImportType.{ImportType}
use Rattle.wasm_file.specs.declared.entries.ImportType.TheVariants as asked
use Rattle.wasm_file.specs.declared.entries.Parts.{Parts}
use Rattle.wasm_file.specs.declared.entries.Segment.{Segment}
use Rattle.wasm_file.specs.declared.entries.TableType.{TableType}

-- ---- types

-- 32 bits count the parameters and the results
pub record FitsFuncType (ty : FuncType) : Type 0 where
  pub params_few : length ty.params < 2 ^ 32
  pub results_few : length ty.results < 2 ^ 32

-- at most the greatest, and a number of 64 bits or, where addresses are narrow, of 32
abbrev pub IsLimit : ℕ → Bool → ℕ → Type 0
IsLimit greatest wide n = (n ≤ greatest) × (n < (if wide then 2 ^ 64 else 2 ^ 32))

-- none, or a limit
abbrev pub IsMaximum : ℕ → Bool → Option ℕ → Type 0
IsMaximum greatest wide (Some n) = IsLimit greatest wide n
IsMaximum greatest wide None = ⊤

-- a minimum, and a maximum where there is one, each at most the greatest
pub record FitsLimits (greatest : ℕ) (l : Limits) : Type 0 where
  pub min_fits : IsLimit greatest l.wide l.min
  pub max_fits : IsMaximum greatest l.wide l.max

-- a type of references, and limits
pub record FitsTable (t : TableType) : Type 0 where
  pub elem_fits : is_reference t.elem ≡ true
  pub limits_fit : FitsLimits any_limit t.limits

-- the type is there
abbrev pub FitsTypeId : Counts → TypeId → Type 0
FitsTypeId counts ty = IsIndex counts.types ty.0

-- ---- imports and exports

-- UTF-8, whose bytes 32 bits count
abbrev pub FitsName : List ℕ → Type 0
FitsName text = (is_utf8 text ≡ true) × (length text < 2 ^ 32)

-- what an import asks for has limits that fit, and a type that is there
abbrev pub FitsImportType : Counts → ImportType → Type 0
FitsImportType counts (asked.Func ty) = FitsTypeId counts ty
FitsImportType counts (asked.Table elem limits) = FitsTable (record { elem = elem; limits = limits })
FitsImportType counts (asked.Memory limits) = FitsLimits memory_limit limits
FitsImportType counts (asked.Global ty mutable) = ⊤
FitsImportType counts (asked.Tag ty) = FitsTypeId counts ty

-- both names are UTF-8, and what is asked for fits
pub record FitsImport (counts : Counts) (i : FileImport) : Type 0 where
  pub module_fits : FitsName i.«module»
  pub name_fits : FitsName i.name
  pub ty_fits : FitsImportType counts i.ty

-- the item is there
abbrev pub FitsItem : Counts → ExportItem → Type 0
FitsItem counts (items.Func id) = IsIndex counts.funcs id.0
FitsItem counts (items.Table id) = IsIndex counts.tables id.0
FitsItem counts (items.Memory id) = IsIndex counts.memories id.0
FitsItem counts (items.Global id) = IsIndex counts.globals id.0
FitsItem counts (items.Tag id) = IsIndex counts.tags id.0

-- its name is UTF-8, and its item is there
pub record FitsExport (counts : Counts) (e : Export) : Type 0 where
  pub name_fits : FitsName e.name
  pub item_fits : FitsItem counts e.item

-- ---- globals and segments

-- operators of an initial expression
abbrev pub FitsInitials : Counts → List Op → Type 0
FitsInitials counts xs = AllByRecursion (FitsInitial counts) xs

-- its initial expression fits
abbrev pub FitsGlobal : Counts → FileGlobal → Type 0
FitsGlobal counts g = FitsInitials counts g.init

-- the function is there
abbrev pub FitsFuncId : Counts → FuncId → Type 0
FitsFuncId counts func = IsIndex counts.funcs func.0

-- the table is there, and the expression of the place fits
abbrev pub FitsElemPlace : Counts → ElemPlace → Type 0
FitsElemPlace counts (places.Active table init) = IsIndex counts.tables table.0 × FitsInitials counts init
FitsElemPlace counts places.Passive = ⊤
FitsElemPlace counts places.Declared = ⊤

-- expressions of a type of references and no functions, or functions and no expressions
abbrev pub FitsElemList : Counts → Elem → Bool → Type 0
FitsElemList counts e true = (is_reference e.ty ≡ true) × (e.funcs ≡ []) × (length e.exprs < 2 ^ 32) × AllByRecursion (FitsInitials counts) e.exprs
FitsElemList counts e false = (length e.funcs < 2 ^ 32) × AllByRecursion (FitsFuncId counts) e.funcs

-- which of both its spelling has
abbrev pub FitsElemEntries : Counts → Elem → Type 0
FitsElemEntries counts e = FitsElemList counts e (has_exprs e)

-- its place and its entries fit
pub record FitsElem (counts : Counts) (e : Elem) : Type 0 where
  pub place_fits : FitsElemPlace counts e.place
  pub entries_fit : FitsElemEntries counts e

-- the memory is there, and the expression of the place fits
abbrev pub FitsSegmentPlace : Counts → Option (MemoryId × List Op) → Type 0
FitsSegmentPlace counts (Some p) = IsIndex counts.memories p.0.0 × FitsInitials counts p.1
FitsSegmentPlace counts None = ⊤

-- its place fits, and 32 bits count its bytes
pub record FitsSegment (counts : Counts) (s : Segment) : Type 0 where
  pub place_fits : FitsSegmentPlace counts s.place
  pub bytes_few : length s.bytes < 2 ^ 32

-- its name is UTF-8
abbrev pub FitsCustom : Custom → Type 0
FitsCustom c = FitsName c.name

-- ---- a file

-- each function has a body, which fits its type
abbrev pub FitBodies : Counts → List FuncType → List TypeId → List Body → Type 0
FitBodies counts types [] [] = ⊤
FitBodies counts types (ty ∷ functions) (b ∷ bodies) = FitsBody counts (params_of (slice_get types ty.0)) b × FitBodies counts types functions bodies
FitBodies counts types _ _ = ⊥

-- none, or a function that takes and gives nothing
abbrev pub FitsStart : Parts → Option FuncId → Type 0
FitsStart p (Some func) = FitsFuncId (counts_of p) func × (is_plain (type_at p func) ≡ true)
FitsStart p None = ⊤

-- no kind has more entries than the greatest number, imported ones among them
pub record AreFewEntries (p : Parts) : Type 0 where
  pub types_few : length p.types ≤ most
  pub imports_few : length p.imports ≤ most
  pub funcs_few : number_of is_func p.imports + length p.functions ≤ most
  pub tables_few : number_of is_table p.imports + length p.tables ≤ most
  pub memories_few : number_of is_memory p.imports + length p.memories ≤ most
  pub globals_few : number_of is_global p.imports + length p.globals ≤ most
  pub tags_few : number_of is_tag p.imports + length p.tags ≤ most
  pub exports_few : length p.exports ≤ most
  pub elems_few : length p.elems ≤ most
  pub segments_few : length p.segments ≤ most

-- Each entry fits its section, and what it names is there.
pub record FitsFile (p : Parts) : Type 0 where
  pub few : AreFewEntries p
  pub types_fit : AllByRecursion FitsFuncType p.types
  pub imports_fit : AllByRecursion (FitsImport (counts_of p)) p.imports
  pub functions_fit : AllByRecursion (FitsTypeId (counts_of p)) p.functions
  pub tables_fit : AllByRecursion FitsTable p.tables
  pub memories_fit : AllByRecursion (FitsLimits memory_limit) p.memories
  pub tags_fit : AllByRecursion (FitsTypeId (counts_of p)) p.tags
  pub globals_fit : AllByRecursion (FitsGlobal (counts_of p)) p.globals
  pub exports_fit : AllByRecursion (FitsExport (counts_of p)) p.exports
  pub start_fits : FitsStart p p.start
  pub elems_fit : AllByRecursion (FitsElem (counts_of p)) p.elems
  pub count_told : is_told p.data_count (length p.segments) ≡ true
  pub bodies_fit : FitBodies (counts_of p) p.types p.functions p.bodies
  pub segments_fit : AllByRecursion (FitsSegment (counts_of p)) p.segments
  pub customs_fit : AllByRecursion FitsCustom p.customs

-- 32 bits count the bytes of each section's content
abbrev pub AreShortSections : Parts → Type 0
AreShortSections p = AllByRecursion (λ s. length s.1 < 2 ^ 32) (part_sections p)

-- the bytes of a file
abbrev pub file_bytes : Parts → List ℕ
file_bytes p = preamble_bytes ++ flat_map section_bytes (part_sections p)

-- the lists with the runs of locals of each body joined
abbrev pub joined_file : Parts → Parts
joined_file p = record p { bodies = map joined_body p.bodies }

-- the runs of locals of each body are joined
abbrev pub AreJoined : Parts → Type 0
AreJoined p = AllByRecursion (λ b. joined_runs b.locals ≡ b.locals) p.bodies
