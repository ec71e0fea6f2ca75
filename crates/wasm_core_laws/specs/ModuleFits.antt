-- Which modules are read again once they are written.
use Rattle.std.specs.Prelude.{◌≡◌, ℕ, ⊤, Bool, true, List, [], length, Option, Some, None, is_some}
use Rattle.std.specs.List.{AllByRecursion, filter_map, enumerate_from}
use Rattle.wasm_bytes.specs.declared.counts.Counts.{Counts}
use Rattle.wasm_ops_laws.specs.Fits.{FitsBody}
use Rattle.wasm_types.specs.declared.ids.FuncId.{FuncId}
use Rattle.wasm_types.specs.declared.ids.ImportId.{ImportId}
use Rattle.wasm_code.specs.declared.body.Body.{Body}
use Rattle.wasm_ops.specs.declared.ops.Op.{Op}
use Rattle.wasm_types.specs.declared.types.FuncType.{FuncType}
use Rattle.wasm_file.specs.Entries.{memory_limit}
use Rattle.wasm_file.specs.Parts.{params_of, is_plain}
use Rattle.wasm_file.specs.declared.entries.Custom.{Custom}
use Rattle.wasm_file.specs.declared.entries.Elem.{Elem}
use Rattle.wasm_file.specs.declared.entries.Export.{Export}
use Rattle.wasm_file.specs.declared.entries.Segment.{Segment}
use Rattle.wasm_file_laws.specs.FileFits.{FitsFuncType, FitsTable, FitsLimits, FitsName, FitsInitials, FitsElem, FitsSegment, FitsCustom}
use Rattle.wasm_file_laws.specs.CustomFits.{IsName, FitsFields}
use Rattle.wasm_reach.specs.declared.things.Thing.{Thing}
use Rattle.wasm_reach.specs.declared.things.Thing.TheVariants as things
use Rattle.wasm_core.specs.declared.types.Func.{Func}
use Rattle.wasm_core.specs.declared.types.GlobalVar.{GlobalVar}
use Rattle.wasm_core.specs.declared.types.Import.{Import}
use Rattle.wasm_core.specs.declared.types.ImportKind.{ImportKind}
use Rattle.wasm_core.specs.declared.types.ImportKind.TheVariants as kinds
use Rattle.wasm_core.specs.declared.types.Memory.{Memory}
use Rattle.wasm_core.specs.declared.types.Table.{Table}
use Rattle.wasm_core.specs.declared.types.Tag.{Tag}
use Rattle.wasm_core.specs.Contents.{Contents}
use Rattle.wasm_emission.specs.Emission.{live}
use Rattle.wasm_core.specs.Parsing.{is_kept}
use Rattle.wasm_core.specs.Remainder.{import_thing}
use Rattle.wasm_collect.specs.Reach.{entry_at, stands, places, ops_names, elem_names, segment_names, item_thing}

-- ---- what is named

-- how many places an id can name
abbrev pub id_counts : Contents → Counts
id_counts m = record {
  types = length m.types;
  funcs = length m.funcs;
  tables = length m.tables;
  memories = length m.memories;
  globals = length m.globals;
  tags = length m.tags;
  elems = length m.elems;
  segments = length m.segments;
  locals = 0;
}

-- an entry stands in the place of the thing
abbrev pub Stands : Contents → Thing → Type 0
Stands m t = stands m t ≡ true

-- an entry stands in the place of each
abbrev pub AllStand : Contents → List Thing → Type 0
AllStand m ts = AllByRecursion (Stands m) ts

-- no entry, or one that fits
abbrev pub IfThere : {A : Type 0} → (A → Type 0) → Option A → Type 0
IfThere fits (Some x) = fits x
IfThere fits None = ⊤

-- each entry that is there fits
abbrev pub AllThere : {A : Type 0} → (A → Type 0) → List (Option A) → Type 0
AllThere fits xs = AllByRecursion (IfThere fits) xs

-- ---- entries

-- the type of a function that is there
abbrev pub type_of_func : Contents → Option Func → Option FuncType
type_of_func m (Some f) = entry_at m.types f.ty.0
type_of_func m None = None

-- operators of an initial expression, which name what is there
abbrev pub FitsExpression : Contents → List Op → Type 0
FitsExpression m xs = FitsInitials (id_counts m) xs × AllStand m (ops_names xs)

-- no body behind an import, else one that fits the type and names what is there
abbrev pub FitsCode : Contents → Option FuncType → Option ImportId → Option Body → Type 0
FitsCode m ty None (Some b) = FitsBody (id_counts m) (params_of ty) b × AllStand m (ops_names b.ops)
FitsCode m ty (Some i) None = ⊤
FitsCode m ty None None = ⊥
FitsCode m ty (Some i) (Some b) = ⊥

-- its type is there, its name is UTF-8, and it has an import or a body that fits
pub record FitsFunc (m : Contents) (f : Func) : Type 0 where
  pub ty_stands : Stands m (things.Type f.ty.0)
  pub name_fits : IsName f.name
  pub code_fits : FitsCode m (entry_at m.types f.ty.0) f.«import» f.body

-- a type of references and limits
abbrev pub FitsTableEntry : Table → Type 0
FitsTableEntry t = FitsTable (record { elem = t.elem; limits = t.limits })

-- limits of a memory
abbrev pub FitsMemoryEntry : Memory → Type 0
FitsMemoryEntry x = FitsLimits memory_limit x.limits

-- no expression behind an import, else one that fits
abbrev pub FitsInit : Contents → Option ImportId → List Op → Type 0
FitsInit m None init = FitsExpression m init
FitsInit m (Some i) init = init ≡ []

-- an import, or an initial expression that fits
abbrev pub FitsGlobalEntry : Contents → GlobalVar → Type 0
FitsGlobalEntry m g = FitsInit m g.«import» g.init

-- its type is there
abbrev pub FitsTagEntry : Contents → Tag → Type 0
FitsTagEntry m t = Stands m (things.Type t.ty.0)

-- both names are UTF-8, and what it brings in is there
pub record FitsImportEntry (m : Contents) (i : Import) : Type 0 where
  pub module_fits : FitsName i.«module»
  pub name_fits : FitsName i.name
  pub item_stands : Stands m (import_thing i.kind)

-- its name is UTF-8, and what it gives out is there
pub record FitsExportEntry (m : Contents) (e : Export) : Type 0 where
  pub name_fits : FitsName e.name
  pub item_stands : Stands m (item_thing e.item)

-- it fits the grammar, and what it names is there
pub record FitsElemEntry (m : Contents) (e : Elem) : Type 0 where
  pub fits : FitsElem (id_counts m) e
  pub named_stand : AllStand m (elem_names (Some e))

-- it fits the grammar, and what it names is there
pub record FitsSegmentEntry (m : Contents) (s : Segment) : Type 0 where
  pub fits : FitsSegment (id_counts m) s
  pub named_stand : AllStand m (segment_names (Some s))

-- none, or a function that is there, and takes and gives nothing
abbrev pub IsStart : Contents → Option FuncId → Type 0
IsStart m (Some func) = Stands m (things.Func func.0) × (is_plain (type_of_func m (entry_at m.funcs func.0)) ≡ true)
IsStart m None = ⊤

-- the section isn't one of those that are read into lists of their own
pub record FitsCustomEntry (c : Custom) : Type 0 where
  pub fits : FitsCustom c
  pub kept : is_kept true c ≡ true

-- ---- imports and what they bring in

-- the place of the function that is brought in, where one is, and so on
abbrev pub func_brought : Import → Option ℕ
func_brought i = func_place i.kind
  where
    func_place : ImportKind → Option ℕ
    func_place (kinds.Func id) = Some id.0
    func_place _ = None

abbrev pub table_brought : Import → Option ℕ
table_brought i = table_place i.kind
  where
    table_place : ImportKind → Option ℕ
    table_place (kinds.Table id) = Some id.0
    table_place _ = None

abbrev pub memory_brought : Import → Option ℕ
memory_brought i = memory_place i.kind
  where
    memory_place : ImportKind → Option ℕ
    memory_place (kinds.Memory id) = Some id.0
    memory_place _ = None

abbrev pub global_brought : Import → Option ℕ
global_brought i = global_place i.kind
  where
    global_place : ImportKind → Option ℕ
    global_place (kinds.Global id) = Some id.0
    global_place _ = None

abbrev pub tag_brought : Import → Option ℕ
tag_brought i = tag_place i.kind
  where
    tag_place : ImportKind → Option ℕ
    tag_place (kinds.Tag id) = Some id.0
    tag_place _ = None

-- the entry is imported
abbrev pub func_imported : Func → Bool
func_imported f = is_some f.«import»

abbrev pub table_imported : Table → Bool
table_imported t = is_some t.«import»

abbrev pub memory_imported : Memory → Bool
memory_imported x = is_some x.«import»

abbrev pub global_imported : GlobalVar → Bool
global_imported g = is_some g.«import»

abbrev pub tag_imported : Tag → Bool
tag_imported t = is_some t.«import»

-- the entry names the import at a place as its own
abbrev pub IsBroughtBy : {A : Type 0} → (A → Option ImportId) → ℕ → Option A → Type 0
IsBroughtBy import_of place (Some x) = import_of x ≡ Some (record { 0 = place })
IsBroughtBy import_of place None = ⊥

-- what the import at a place brings in names that import
abbrev pub IsLinked : Contents → ℕ → ImportKind → Type 0
IsLinked m place (kinds.Func id) = IsBroughtBy (λ (f : Func). f.«import») place (entry_at m.funcs id.0)
IsLinked m place (kinds.Table id) = IsBroughtBy (λ (t : Table). t.«import») place (entry_at m.tables id.0)
IsLinked m place (kinds.Memory id) = IsBroughtBy (λ (x : Memory). x.«import») place (entry_at m.memories id.0)
IsLinked m place (kinds.Global id) = IsBroughtBy (λ (g : GlobalVar). g.«import») place (entry_at m.globals id.0)
IsLinked m place (kinds.Tag id) = IsBroughtBy (λ (t : Tag). t.«import») place (entry_at m.tags id.0)

-- a place, and the import there, if any
abbrev pub IsLinkedAt : Contents → ℕ × Option Import → Type 0
IsLinkedAt m (place, Some i) = IsLinked m place i.kind
IsLinkedAt m (place, None) = ⊤

-- The imported entries of each kind stand in the order of their imports.
pub record AreInOrder (m : Contents) : Type 0 where
  pub linked : AllByRecursion (IsLinkedAt m) (enumerate_from 0 m.imports)
  pub funcs : places func_imported 0 m.funcs ≡ filter_map func_brought (live m.imports)
  pub tables : places table_imported 0 m.tables ≡ filter_map table_brought (live m.imports)
  pub memories : places memory_imported 0 m.memories ≡ filter_map memory_brought (live m.imports)
  pub globals : places global_imported 0 m.globals ≡ filter_map global_brought (live m.imports)
  pub tags : places tag_imported 0 m.tags ≡ filter_map tag_brought (live m.imports)

-- ---- a module

-- Each entry fits the grammar, what it names is there, and imported entries stand in the order of their imports.
pub record IsModule (m : Contents) : Type 0 where
  pub types : AllThere FitsFuncType m.types
  pub funcs : AllThere (FitsFunc m) m.funcs
  pub tables : AllThere FitsTableEntry m.tables
  pub memories : AllThere FitsMemoryEntry m.memories
  pub globals : AllThere (FitsGlobalEntry m) m.globals
  pub tags : AllThere (FitsTagEntry m) m.tags
  pub imports : AllThere (FitsImportEntry m) m.imports
  pub exports : AllThere (FitsExportEntry m) m.exports
  pub elems : AllThere (FitsElemEntry m) m.elems
  pub segments : AllThere (FitsSegmentEntry m) m.segments
  pub start : IsStart m m.start
  pub customs : AllByRecursion FitsCustomEntry m.customs
  pub name : IsName m.name
  pub producers : FitsFields m.producers
  pub order : AreInOrder m
