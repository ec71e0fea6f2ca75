-- What is parsed is a module: each entry fits, what it names is there, and imported entries stand in the order of their imports.
use Rattle.std.proofs.Common.{◌≡◌, ℕ, ◌+◌, ◌≤◌, Bool, true, false, not, List, [], ◌∷◌, ◌++◌, map, length, Option, Some, None, Result, Ok, Err, refl, sym, ap, subst, ◌∙◌, arith, inl, inr, append_assoc, ltb}
use Rattle.std.specs.Prelude.{count_by, is_some, slice_get, ◌&&◌, ◌||◌}
use Rattle.std.specs.List.{AllByRecursion, filter, filter_map, cons_option, enumerate_from, range_with_len}
use Rattle.std.specs.Option.{option_map}
use Rattle.std.proofs.lemmas.Bool.{cases_Bool}
use Rattle.std.proofs.lemmas.List.{map-append, length-map, length_push}
use Rattle.std.proofs.lemmas.Option.{slice_get-map}
use Rattle.std.proofs.lemmas.List.FromFn.{length-range_with_len}
use Rattle.wasm_bytes.specs.declared.counts.Counts.{Counts}
use Rattle.wasm_code.specs.Numbers.{renumbered_ops}
use Rattle.wasm_types.specs.declared.ids.FuncId.{FuncId}
use Rattle.wasm_types.specs.declared.ids.ImportId.{ImportId}
use Rattle.wasm_types.specs.declared.ids.TypeId.{TypeId}
use Rattle.wasm_code.specs.declared.body.Body.{Body}
use Rattle.wasm_types.specs.declared.types.FuncType.{FuncType}
use Rattle.wasm_ops_laws.specs.Fits.{FitsBody}
use Rattle.wasm_file.specs.Grammar.{parts_of}
use Rattle.wasm_file.specs.Parts.{number_of, counts_of, params_of, is_plain, func_type_of, imported_func_types, func_types, named_type, is_func, is_table, is_memory, is_global, is_tag}
use Rattle.wasm_file.specs.Sections.{type_at}
use Rattle.wasm_file.specs.declared.entries.Custom.{Custom}
use Rattle.wasm_file.specs.declared.entries.Elem.{Elem}
use Rattle.wasm_file.specs.declared.entries.Export.{Export}
use Rattle.wasm_file.specs.declared.entries.FileGlobal.{FileGlobal}
use Rattle.wasm_file.specs.declared.entries.FileImport.{FileImport}
use Rattle.wasm_file.specs.declared.entries.ImportType.{ImportType}
use Rattle.wasm_file.specs.declared.entries.ImportType.TheVariants as asked
use Rattle.wasm_file.specs.declared.entries.Parts.{Parts}
use Rattle.wasm_file.specs.declared.entries.Segment.{Segment}
use Rattle.wasm_file.specs.declared.entries.TableType.{TableType}
use Rattle.wasm_file_laws.specs.FileFits.{FitsFuncType, FitsTypeId, FitsImportType, FitsImport, FitsGlobal, FitsExport, FitsElem, FitsSegment, FitsCustom, FitBodies, FitsStart, AreFewEntries, FitsFile}
use Rattle.wasm_file_laws.specs.CustomFits.{IsName, FitsFields}
use Rattle.wasm_file_laws.proofs.CountsGrow.{AreAtMost, named_at_most, fits_body_grows, fits_initials_grow, fits_elem_grows, fits_segment_grows}
use Rattle.wasm_file_laws.proofs.EntriesFit.{HasBytes}
use Rattle.wasm_file_laws.proofs.EachItem.{all_weaker}
use Rattle.wasm_core.specs.declared.faults.ParseFault.{ParseFault}
use Rattle.wasm_core.specs.declared.faults.ParseFault.TheVariants as faults
use Rattle.wasm_core.specs.declared.types.Func.{Func}
use Rattle.wasm_core.specs.declared.types.GlobalVar.{GlobalVar}
use Rattle.wasm_core.specs.declared.types.Import.{Import}
use Rattle.wasm_core.specs.declared.types.ImportKind.{ImportKind}
use Rattle.wasm_core.specs.declared.types.ImportKind.TheVariants as kinds
use Rattle.wasm_core.specs.declared.types.Memory.{Memory}
use Rattle.wasm_core.specs.declared.types.ParseConfig.{ParseConfig}
use Rattle.wasm_core.specs.declared.types.Table.{Table}
use Rattle.wasm_core.specs.declared.types.Tag.{Tag}
use Rattle.wasm_core.specs.Contents.{Contents}
use Rattle.wasm_emission.specs.Emission.{live, filed, filed_by, file_import, file_type, file_export, file_elem, file_segment}
use Rattle.wasm_core.specs.Parsing.{places_of, kind_at, imports_behind, asks_func, asks_table, asks_memory, asks_global, asks_tag, brought, joined, imported_func, imported_table, imported_memory, imported_global, imported_tag, own_funcs, table_of, memory_of, global_of, tag_of, all_funcs, all_producers, is_kept, assembled, longest, made, module_of}
use Rattle.wasm_core.specs.Remainder.{import_thing}
use Rattle.wasm_collect.specs.Reach.{entry_at}
use Rattle.wasm_emission.specs.Renumbering.{numbering}
use Rattle.wasm_core_laws.specs.ModuleFits.{id_counts, Stands, IfThere, AllThere, type_of_func, FitsFunc, FitsTableEntry, FitsMemoryEntry, FitsGlobalEntry, FitsTagEntry, FitsImportEntry, FitsExportEntry, FitsElemEntry, FitsSegmentEntry, IsStart, FitsCustomEntry, IsBroughtBy, IsLinked, IsLinkedAt, AreInOrder, IsModule, func_brought, table_brought, memory_brought, global_brought, tag_brought, func_imported, table_imported, memory_imported, global_imported, tag_imported}
use Rattle.wasm_core_laws.proofs.Everywhere.{all_map, all_kept, all_filtered, all_placed, kept_few}
use Rattle.wasm_core_laws.proofs.FitsStand.{HasCounted, body_stands, initials_stand, item_stands, elem_stands, segment_stands}
use Rattle.wasm_core_laws.proofs.ImportKinds.{func_kind, table_kind, memory_kind, global_kind, tag_kind, Tells, written_few, own_few}
use Rattle.wasm_core_laws.proofs.ImportsBehind.{brought_by, told_places, behind_count}
use Rattle.wasm_core_laws.proofs.ParsedNames.{AreNames, are_names, last_is_name, are_producers, named_func, named_from, all_named, map_named}
use Rattle.wasm_core_laws.proofs.SameNumbers.{places_same}
use Rattle.wasm_core_laws.proofs.Filled.{names_given, imported_funcs, other_funcs, filled, same_import, same_ty, funcs_imported, tables_imported, memories_imported, globals_imported, tags_imported, funcs_not_imported, tables_not_imported, memories_not_imported, globals_not_imported, tags_not_imported, imported_funcs_count, imported_tables_count, imported_memories_count, imported_globals_count, imported_tags_count, funcs_count, tables_count, memories_count, globals_count, tags_count, counted_stand, counts_below}
use Rattle.wasm_core_laws.proofs.Entries.{all_some, all_joined, entry_some, live_some, joined_some}

-- ---- entries

module _ (m : Contents) (p : Parts) (has : HasCounted m (counts_of p)) (grow : AreAtMost (counts_of p) (id_counts m)) (types_are : m.types ≡ map Some p.types) where
  -- what is made of each import fits
  each_brought : {A : Type 0} (P : A → Type 0) (make : ImportId → ImportType → Option A) → ((i : ImportId) (ty : ImportType) → FitsImportType (counts_of p) ty → IfThere P (make i ty)) → AllByRecursion (FitsImport (counts_of p)) p.imports → AllByRecursion P (brought make p.imports)
  each_brought P make fits h =
      all_kept P (λ q. make (record { 0 = q.0 }) q.1.ty) (enumerate_from 0 p.imports)
      (all_weaker (λ q. FitsImport (counts_of p) q.1) (λ q. IfThere P (make (record { 0 = q.0 }) q.1.ty)) (λ q f. fits (record { 0 = q.0 }) q.1.ty f.ty_fits)
      (enumerate_from 0 p.imports) (all_placed (FitsImport (counts_of p)) 0 p.imports h))

  -- an imported function fits, and so on
  func_fits : (i : ImportId) (ty : ImportType) → FitsImportType (counts_of p) ty → IfThere (FitsFunc m) (imported_func i ty)
  func_fits i (asked.Func ty) h = record { ty_stands = has.types ty.0 h.0; name_fits = tt; code_fits = tt }
  func_fits i _ h = tt

  -- the same of tables, memories, global variables and tags
  table_fits : (i : ImportId) (ty : ImportType) → FitsImportType (counts_of p) ty → IfThere FitsTableEntry (imported_table i ty)
  table_fits i (asked.Table elem limits) h = h
  table_fits i _ h = tt

  memory_fits : (i : ImportId) (ty : ImportType) → FitsImportType (counts_of p) ty → IfThere FitsMemoryEntry (imported_memory i ty)
  memory_fits i (asked.Memory limits) h = h
  memory_fits i _ h = tt

  global_fits : (i : ImportId) (ty : ImportType) → FitsImportType (counts_of p) ty → IfThere (FitsGlobalEntry m) (imported_global i ty)
  global_fits i (asked.Global ty mutable) h = refl
  global_fits i _ h = tt

  tag_fits : (i : ImportId) (ty : ImportType) → FitsImportType (counts_of p) ty → IfThere (FitsTagEntry m) (imported_tag i ty)
  tag_fits i (asked.Tag ty) h = has.types ty.0 h.0
  tag_fits i _ h = tt

  -- each function of one's own fits
  own_fit : (functions : List TypeId) (bodies : List Body) → AllByRecursion (FitsTypeId (counts_of p)) functions → FitBodies (counts_of p) p.types functions bodies → AllByRecursion (FitsFunc m) (own_funcs functions bodies)
  unfolding own_funcs
  own_fit [] bodies h k = tt
  own_fit (ty ∷ functions) [] h k = tt
  own_fit (ty ∷ functions) (b ∷ bodies) h k =
      let counts = counts_of p in
      let same : slice_get p.types ty.0 ≡ entry_at m.types ty.0 = sym (ap (λ xs. entry_at xs ty.0) types_are ∙ entry_some p.types ty.0) in
      let fits = subst (λ t. FitsBody (id_counts m) (params_of t) b) same (fits_body_grows counts (id_counts m) grow (params_of (slice_get p.types ty.0)) b k.0) in (
        record { ty_stands = has.types ty.0 h.0.0; name_fits = tt; code_fits = (fits, body_stands m counts has (params_of (slice_get p.types ty.0)) b k.0) },
        own_fit functions bodies h.1 k.1,
      )

  -- a function with a name fits
  named_fits : (name : Option (List ℕ)) (f : Func) → IsName name → FitsFunc m f → FitsFunc m (named_func name f)
  named_fits (Some name) f h k = record { ty_stands = k.ty_stands; name_fits = h; code_fits = k.code_fits }
  named_fits None f h k = k

  -- a global of one's own fits
  own_global_fits : (g : FileGlobal) → FitsGlobal (counts_of p) g → FitsGlobalEntry m (global_of g)
  own_global_fits g h = (fits_initials_grow (counts_of p) (id_counts m) (named_at_most (counts_of p) (id_counts m) grow) g.init h, initials_stand m (counts_of p) has g.init h)

  -- an export fits
  export_fits : (e : Export) → FitsExport (counts_of p) e → FitsExportEntry m e
  export_fits e h = record { name_fits = h.name_fits; item_stands = item_stands m (counts_of p) has e.item h.item_fits }

  -- an element segment fits
  elem_fits : (e : Elem) → FitsElem (counts_of p) e → FitsElemEntry m e
  elem_fits e h = record { fits = fits_elem_grows (counts_of p) (id_counts m) (named_at_most (counts_of p) (id_counts m) grow) e h; named_stand = elem_stands m (counts_of p) has e h }

  -- a data segment fits
  segment_fits : (s : Segment) → FitsSegment (counts_of p) s → FitsSegmentEntry m s
  segment_fits s h = record { fits = fits_segment_grows (counts_of p) (id_counts m) (named_at_most (counts_of p) (id_counts m) grow) s h; named_stand = segment_stands m (counts_of p) has s h }

-- a section that is kept isn't read, whatever is wanted
custom_fits : (keep_debug : Bool) (c : Custom) → FitsCustom c × (is_kept keep_debug c ≡ true) → FitsCustomEntry c
custom_fits true c h = record { fits = h.0; kept = h.1 }
custom_fits false c h = record { fits = h.0; kept = more _ _ _ h.1 }
  where
    more : (a b d : Bool) → (not a && (not b && (false || d))) ≡ true → (not a && (not b && (true || d))) ≡ true
    more false false true is = refl
    more false false false is = refl
    more false true d is = is
    more true b d is = is

-- ---- imports

-- what an import brings in stands
brought_stands : {A : Type 0} (import_of : A → Option ImportId) (place : ℕ) (x : Option A) → IsBroughtBy import_of place x → is_some x ≡ true
brought_stands import_of place (Some x) h = refl
brought_stands import_of place None h = absurd h

-- what is linked stands
linked_stands : (m : Contents) (place : ℕ) (kind : ImportKind) → IsLinked m place kind → Stands m (import_thing kind)
linked_stands m place (kinds.Func id) h = brought_stands (λ (f : Func). f.«import») place (entry_at m.funcs id.0) h
linked_stands m place (kinds.Table id) h = brought_stands (λ (t : Table). t.«import») place (entry_at m.tables id.0) h
linked_stands m place (kinds.Memory id) h = brought_stands (λ (x : Memory). x.«import») place (entry_at m.memories id.0) h
linked_stands m place (kinds.Global id) h = brought_stands (λ (g : GlobalVar). g.«import») place (entry_at m.globals id.0) h
linked_stands m place (kinds.Tag id) h = brought_stands (λ (t : Tag). t.«import») place (entry_at m.tags id.0) h

module _ (config : ParseConfig) (p : Parts) where
  -- each import is linked with what it brings in
  kind_linked : (before rest : List FileImport) (from name : List ℕ) (ty : ImportType) → before ++ record { «module» = from; name = name; ty = ty } ∷ rest ≡ p.imports → IsLinked (filled config p) (length before) (kind_at (places_of before) ty)
  kind_linked before rest from name (asked.Func ty) is =
      brought_by asks_func imported_func (λ (f : Func). f.«import») func_brought func_kind (imported_funcs p) (other_funcs p) before rest (record { «module» = from; name = name; ty = asked.Func ty })
      (map_named (λ (f : Func). f.«import») (names_given p).funcs same_import 0 (brought imported_func p.imports) ∙ ap (λ xs. map (λ (f : Func). f.«import») (brought imported_func xs)) (sym is)) refl
  kind_linked before rest from name (asked.Table elem limits) is =
      brought_by asks_table imported_table (λ (t : Table). t.«import») table_brought table_kind (brought imported_table p.imports) (map table_of p.tables) before rest (record { «module» = from; name = name; ty = asked.Table elem limits })
      (ap (λ xs. map (λ (t : Table). t.«import») (brought imported_table xs)) (sym is)) refl
  kind_linked before rest from name (asked.Memory limits) is =
      brought_by asks_memory imported_memory (λ (x : Memory). x.«import») memory_brought memory_kind (brought imported_memory p.imports) (map memory_of p.memories) before rest (record { «module» = from; name = name; ty = asked.Memory limits })
      (ap (λ xs. map (λ (x : Memory). x.«import») (brought imported_memory xs)) (sym is)) refl
  kind_linked before rest from name (asked.Global ty mutable) is =
      brought_by asks_global imported_global (λ (g : GlobalVar). g.«import») global_brought global_kind (brought imported_global p.imports) (map global_of p.globals) before rest (record { «module» = from; name = name; ty = asked.Global ty mutable })
      (ap (λ xs. map (λ (g : GlobalVar). g.«import») (brought imported_global xs)) (sym is)) refl
  kind_linked before rest from name (asked.Tag ty) is =
      brought_by asks_tag imported_tag (λ (t : Tag). t.«import») tag_brought tag_kind (brought imported_tag p.imports) (map tag_of p.tags) before rest (record { «module» = from; name = name; ty = asked.Tag ty })
      (ap (λ xs. map (λ (t : Tag). t.«import») (brought imported_tag xs)) (sym is)) refl

  -- each of the imports behind others is linked with what it brings in
  all_linked : (before rest : List FileImport) → before ++ rest ≡ p.imports → AllByRecursion (IsLinkedAt (filled config p)) (enumerate_from (length before) (imports_behind before rest))
  unfolding imports_behind
  all_linked before [] is = tt
  all_linked before (x ∷ rest) is = (
    kind_linked before rest x.«module» x.name x.ty is,
    subst (λ n. AllByRecursion (IsLinkedAt (filled config p)) (enumerate_from n (imports_behind (before ++ x ∷ []) rest))) (length_push before x) (all_linked (before ++ x ∷ []) rest (append_assoc before (x ∷ []) rest ∙ is)),
  )

  -- each of the imports behind others fits
  imports_fit : (before rest : List FileImport) → before ++ rest ≡ p.imports → AllByRecursion (FitsImport (counts_of p)) rest → AllThere (FitsImportEntry (filled config p)) (imports_behind before rest)
  unfolding imports_behind
  imports_fit before [] is h = tt
  imports_fit before (x ∷ rest) is h = (
    record {
      module_fits = h.0.module_fits;
      name_fits = h.0.name_fits;
      item_stands = linked_stands (filled config p) (length before) (kind_at (places_of before) x.ty) (kind_linked before rest x.«module» x.name x.ty is);
    },
    imports_fit (before ++ x ∷ []) rest (append_assoc before (x ∷ []) rest ∙ is) h.1,
  )

  -- imported entries stand in the order of their imports
  in_order : AreInOrder (filled config p)
  in_order = record {
    linked = all_linked [] p.imports refl;
    funcs =
        places_same func_imported 0 (imported_funcs p) (other_funcs p) (funcs_imported p) (funcs_not_imported p)
        ∙ ap (range_with_len 0) (imported_funcs_count p) ∙ sym (told_places asks_func imported_func (λ (f : Func). f.«import») func_brought func_kind [] p.imports);
    tables =
        places_same table_imported 0 (brought imported_table p.imports) (map table_of p.tables) (tables_imported p) (tables_not_imported p)
        ∙ ap (range_with_len 0) (imported_tables_count p) ∙ sym (told_places asks_table imported_table (λ (t : Table). t.«import») table_brought table_kind [] p.imports);
    memories =
        places_same memory_imported 0 (brought imported_memory p.imports) (map memory_of p.memories) (memories_imported p) (memories_not_imported p)
        ∙ ap (range_with_len 0) (imported_memories_count p) ∙ sym (told_places asks_memory imported_memory (λ (x : Memory). x.«import») memory_brought memory_kind [] p.imports);
    globals =
        places_same global_imported 0 (brought imported_global p.imports) (map global_of p.globals) (globals_imported p) (globals_not_imported p)
        ∙ ap (range_with_len 0) (imported_globals_count p) ∙ sym (told_places asks_global imported_global (λ (g : GlobalVar). g.«import») global_brought global_kind [] p.imports);
    tags =
        places_same tag_imported 0 (brought imported_tag p.imports) (map tag_of p.tags) (tags_imported p) (tags_not_imported p)
        ∙ ap (range_with_len 0) (imported_tags_count p) ∙ sym (told_places asks_tag imported_tag (λ (t : Tag). t.«import») tag_brought tag_kind [] p.imports);
  }

-- ---- the start function

-- the types of imported functions
imported_types : (from : ℕ) (imports : List FileImport) → map (λ (f : Func). f.ty) (filter_map (λ q. imported_func (record { 0 = q.0 }) q.1.ty) (enumerate_from from imports)) ≡ imported_func_types imports
unfolding imported_func_types
imported_types from [] = refl
imported_types from (x ∷ imports) = more x.ty (filter_map (λ q. imported_func (record { 0 = q.0 }) q.1.ty) (enumerate_from (from + 1) imports)) (imported_func_types imports) (imported_types (from + 1) imports)
  where
    more : (ty : ImportType) (fs : List Func) (types : List TypeId) → map (λ (f : Func). f.ty) fs ≡ types → map (λ (f : Func). f.ty) (cons_option (imported_func (record { 0 = from }) ty) fs) ≡ cons_option (func_type_of ty) types
    more (asked.Func ty) fs types is = ap (λ types. ty ∷ types) is
    more (asked.Table elem limits) fs types is = is
    more (asked.Memory limits) fs types is = is
    more (asked.Global ty mutable) fs types is = is
    more (asked.Tag ty) fs types is = is

-- the types of functions of one's own
own_types : (counts : Counts) (types : List FuncType) (functions : List TypeId) (bodies : List Body) → FitBodies counts types functions bodies → map (λ (f : Func). f.ty) (own_funcs functions bodies) ≡ functions
unfolding own_funcs
own_types counts types [] bodies h = refl
own_types counts types (ty ∷ functions) [] h = absurd h
own_types counts types (ty ∷ functions) (b ∷ bodies) h = ap (λ tys. ty ∷ tys) (own_types counts types functions bodies h.1)

module _ (p : Parts) (fits : FitsFile p) where
  -- the functions have the types that the file tells
  types_told : map (λ (f : Func). f.ty) (imported_funcs p ++ other_funcs p) ≡ func_types p
  unfolding func_types
  types_told =
      map-append (λ (f : Func). f.ty) (imported_funcs p) (other_funcs p)
      ∙ ap (λ tys. tys ++ map (λ (f : Func). f.ty) (other_funcs p)) (map_named (λ (f : Func). f.ty) (names_given p).funcs same_ty 0 (brought imported_func p.imports) ∙ imported_types 0 p.imports)
      ∙ ap (λ tys. imported_func_types p.imports ++ tys) (map_named (λ (f : Func). f.ty) (names_given p).funcs same_ty (length (brought imported_func p.imports)) (own_funcs p.functions p.bodies) ∙ own_types (counts_of p) p.types p.functions p.bodies fits.bodies_fit)

  -- the type of a function is the one that the file tells
  type_told : (config : ParseConfig) (i : FuncId) → type_of_func (filled config p) (entry_at (joined (imported_funcs p) (other_funcs p)) i.0) ≡ type_at p i
  type_told config i =
      let fs = imported_funcs p ++ other_funcs p in
      ap (λ xs. type_of_func (filled config p) (entry_at xs i.0)) (joined_some (imported_funcs p) (other_funcs p)) ∙ ap (type_of_func (filled config p)) (entry_some fs i.0) ∙ by_type (slice_get fs i.0)
      ∙ ap (named_type p.types) (sym (slice_get-map (λ (f : Func). f.ty) fs i.0) ∙ ap (λ tys. slice_get tys i.0) types_told)
    where
      by_type : (f : Option Func) → type_of_func (filled config p) f ≡ named_type p.types (option_map (λ (f : Func). f.ty) f)
      by_type (Some f) = entry_some p.types f.ty.0
      by_type None = refl

  -- the start function fits
  start_fits : (config : ParseConfig) (start : Option FuncId) → FitsStart p start → IsStart (filled config p) start
  start_fits config (Some func) h = ((counted_stand config p fits).funcs func.0 h.0.0, ap is_plain (type_told config func) ∙ h.1)
  start_fits config None h = tt

-- ---- the module

-- what the custom sections give fits
pub record GivenFit (p : Parts) : Type 0 where
  pub names : AreNames (length (all_funcs p)) (names_given p)
  pub producers : FitsFields (all_producers p.customs)

module _ (config : ParseConfig) (p : Parts) (fits : FitsFile p) (customs : GivenFit p) where
  -- an entry stands at each place that is counted
  has : HasCounted (filled config p) (counts_of p)
  has = counted_stand config p fits

  -- no more entries are counted than there are
  grow : AreAtMost (counts_of p) (id_counts (filled config p))
  grow = counts_below config p fits

  -- functions with their names fit
  all_named_fit : (from : ℕ) (fs : List Func) → AllByRecursion (FitsFunc (filled config p)) fs → AllByRecursion (FitsFunc (filled config p)) (named_from (names_given p).funcs from fs)
  all_named_fit from fs h =
      all_named (FitsFunc (filled config p)) (FitsFunc (filled config p)) (names_given p).funcs
      (λ place f k. named_fits (filled config p) p has grow refl _ f (last_is_name (length (all_funcs p)) (names_given p).funcs place customs.names.1) k) from fs h

  -- The module is one.
  pub filled_is_module : IsModule (filled config p)
  filled_is_module = let m : Contents = filled config p in record {
    types = all_some FitsFuncType p.types fits.types_fit;
    funcs = all_joined (FitsFunc m) (imported_funcs p) (other_funcs p)
        (all_named_fit 0 (brought imported_func p.imports) (each_brought m p has grow refl (FitsFunc m) imported_func (func_fits m p has grow refl) fits.imports_fit))
        (all_named_fit (length (brought imported_func p.imports)) (own_funcs p.functions p.bodies) (own_fit m p has grow refl p.functions p.bodies fits.functions_fit fits.bodies_fit));
    tables = all_joined FitsTableEntry (brought imported_table p.imports) (map table_of p.tables)
        (each_brought m p has grow refl FitsTableEntry imported_table (table_fits m p has grow refl) fits.imports_fit)
        (all_map FitsTableEntry table_of p.tables fits.tables_fit);
    memories = all_joined FitsMemoryEntry (brought imported_memory p.imports) (map memory_of p.memories)
        (each_brought m p has grow refl FitsMemoryEntry imported_memory (memory_fits m p has grow refl) fits.imports_fit)
        (all_map FitsMemoryEntry memory_of p.memories fits.memories_fit);
    globals = all_joined (FitsGlobalEntry m) (brought imported_global p.imports) (map global_of p.globals)
        (each_brought m p has grow refl (FitsGlobalEntry m) imported_global (global_fits m p has grow refl) fits.imports_fit)
        (all_map (FitsGlobalEntry m) global_of p.globals (all_weaker (FitsGlobal (counts_of p)) (λ g. FitsGlobalEntry m (global_of g)) (own_global_fits m p has grow refl) p.globals fits.globals_fit));
    tags = all_joined (FitsTagEntry m) (brought imported_tag p.imports) (map tag_of p.tags)
        (each_brought m p has grow refl (FitsTagEntry m) imported_tag (tag_fits m p has grow refl) fits.imports_fit)
        (all_map (FitsTagEntry m) tag_of p.tags (all_weaker (FitsTypeId (counts_of p)) (λ ty. FitsTagEntry m (tag_of ty)) (λ ty h. has.types ty.0 h.0) p.tags fits.tags_fit));
    imports = imports_fit config p [] p.imports refl fits.imports_fit;
    exports = all_some (FitsExportEntry m) p.exports (all_weaker (FitsExport (counts_of p)) (FitsExportEntry m) (export_fits m p has grow refl) p.exports fits.exports_fit);
    elems = all_some (FitsElemEntry m) p.elems (all_weaker (FitsElem (counts_of p)) (FitsElemEntry m) (elem_fits m p has grow refl) p.elems fits.elems_fit);
    segments = all_some (FitsSegmentEntry m) p.segments (all_weaker (FitsSegment (counts_of p)) (FitsSegmentEntry m) (segment_fits m p has grow refl) p.segments fits.segments_fit);
    start = start_fits p fits config p.start fits.start_fits;
    customs = all_weaker (λ c. FitsCustom c × (is_kept config.keep_debug c ≡ true)) FitsCustomEntry (custom_fits config.keep_debug) (filter (is_kept config.keep_debug) p.customs) (all_filtered FitsCustom (is_kept config.keep_debug) p.customs fits.customs_fit);
    name = customs.names.0;
    producers = customs.producers;
    order = in_order config p;
  }

  -- ---- few entries

  -- no more imports of a kind are written than there are, and no more other entries
  few_of_kind : (kind : ImportType → Bool) (place : Import → Option ℕ) (n : ℕ) → ((i : Import) (ty : ImportType) → Tells i ty → kind ty ≡ is_some (place i)) → filter_map place (live (imports_behind [] p.imports)) ≡ range_with_len 0 n
      → number_of kind (filter_map (file_import (filled config p) (numbering (filled config p))) (live (imports_behind [] p.imports))) ≤ n
  few_of_kind kind place n same are =
      let few = written_few (filled config p) (numbering (filled config p)) kind place same (live (imports_behind [] p.imports)) in
      omega (arith, few, ap length are, length-range_with_len 0 n)

  -- It has few entries.
  pub filled_is_small : AreFewEntries (filed (filled config p))
  unfolding filed_by
  filled_is_small = let m : Contents = filled config p in let n = numbering m in record {
    types_few = let same = ap length (live_some p.types) in omega (arith, same, fits.few.types_few);
    imports_few = omega (arith, kept_few (file_import m n) (live (imports_behind [] p.imports)), behind_count [] p.imports, fits.few.imports_few);
    funcs_few =
        let imported = few_of_kind is_func func_brought (count_by asks_func p.imports) (λ i ty t. t.funcs) (told_places asks_func imported_func (λ (f : Func). f.«import») func_brought func_kind [] p.imports) in
        let others = own_few (λ (f : Func). f.«import») (λ f. file_type n f.ty) (imported_funcs p) (other_funcs p) (funcs_imported p) in
        omega (arith, imported, others, imported_funcs_count p, funcs_count p fits, fits.few.funcs_few);
    tables_few =
        let imported = few_of_kind is_table table_brought (count_by asks_table p.imports) (λ i ty t. t.tables) (told_places asks_table imported_table (λ (t : Table). t.«import») table_brought table_kind [] p.imports) in
        let others = own_few {B = TableType} (λ (t : Table). t.«import») (λ t. record { elem = t.elem; limits = t.limits }) (brought imported_table p.imports) (map table_of p.tables) (tables_imported p) in
        omega (arith, imported, others, imported_tables_count p, tables_count p, fits.few.tables_few);
    memories_few =
        let imported = few_of_kind is_memory memory_brought (count_by asks_memory p.imports) (λ i ty t. t.memories) (told_places asks_memory imported_memory (λ (x : Memory). x.«import») memory_brought memory_kind [] p.imports) in
        let others = own_few (λ (x : Memory). x.«import») (λ x. x.limits) (brought imported_memory p.imports) (map memory_of p.memories) (memories_imported p) in
        omega (arith, imported, others, imported_memories_count p, memories_count p, fits.few.memories_few);
    globals_few =
        let imported = few_of_kind is_global global_brought (count_by asks_global p.imports) (λ i ty t. t.globals) (told_places asks_global imported_global (λ (g : GlobalVar). g.«import») global_brought global_kind [] p.imports) in
        let others = own_few {B = FileGlobal} (λ (g : GlobalVar). g.«import») (λ g. record { ty = g.ty; mutable = g.mutable; init = renumbered_ops n g.init }) (brought imported_global p.imports) (map global_of p.globals) (globals_imported p) in
        omega (arith, imported, others, imported_globals_count p, globals_count p, fits.few.globals_few);
    tags_few =
        let imported = few_of_kind is_tag tag_brought (count_by asks_tag p.imports) (λ i ty t. t.tags) (told_places asks_tag imported_tag (λ (t : Tag). t.«import») tag_brought tag_kind [] p.imports) in
        let others = own_few (λ (t : Tag). t.«import») (λ t. file_type n t.ty) (brought imported_tag p.imports) (map tag_of p.tags) (tags_imported p) in
        omega (arith, imported, others, imported_tags_count p, tags_count p, fits.few.tags_few);
    exports_few = let same = ap length (live_some p.exports) in omega (arith, same, length-map (live (map Some p.exports)) (file_export n), fits.few.exports_few);
    elems_few = let same = ap length (live_some p.elems) in omega (arith, same, length-map (live (map Some p.elems)) (file_elem n), fits.few.elems_few);
    segments_few = let same = ap length (live_some p.segments) in omega (arith, same, length-map (live (map Some p.segments)) (file_segment n), fits.few.segments_few);
  }

-- what custom sections of bytes give fits
pub given_fits : (p : Parts) → AllByRecursion HasBytes p.customs → GivenFit p
given_fits p bytes = record { names = are_names (length (all_funcs p)) p.customs bytes; producers = are_producers p.customs bytes }

-- ---- what is parsed

-- the module in an answer
module_in : Contents → Result Contents ParseFault → Contents
module_in d (Ok m) = m
module_in d (Err fault) = d

-- the lists that a module is made of
made_of : (config : ParseConfig) (r : Result Parts ℕ) (m : Contents) → made config r ≡ Ok m → (p : Parts) × (r ≡ Ok p) × (assembled config p ≡ m)
unfolding module_in
made_of config (Ok p) m is = (p, refl, ap (module_in m) is)
made_of config (Err place) m is = absurd (grind (arith, is))

-- the lists that a module is made of
pub parsed_of : (config : ParseConfig) (bytes : List ℕ) (m : Contents) → module_of config bytes ≡ Ok m → (p : Parts) × (parts_of bytes ≡ Ok p) × (assembled config p ≡ m)
unfolding module_of
parsed_of config bytes m is = elim (cases_Bool (ltb longest (length bytes))) [
  | inl long ↦ let lost : ◌≡◌ {A = Result Contents ParseFault} (Err (faults.Parse longest)) (Ok m) = rw long at is in absurd (grind (arith, lost))
  | inr short ↦ let read : made config (parts_of bytes) ≡ Ok m = rw short at is in made_of config (parts_of bytes) m read
]
