-- What is parsed and written is read again as itself.
use Rattle.std.proofs.Common.{◌≡◌, ℕ, Bool, true, false, List, [], ◌∷◌, ◌++◌, map, length, Option, Some, None, refl, sym, ap, subst, ◌∙◌, arith}
use Rattle.std.specs.Prelude.{is_some, if◌then◌else◌}
use Rattle.std.specs.List.{AllByRecursion, filter, enumerate_from}
use Rattle.std.proofs.lemmas.List.{length-map}
use Rattle.wasm_code.specs.Locals.{joined_runs}
use Rattle.wasm_ops.specs.Numbers.{number_at}
use Rattle.wasm_code.specs.Numbers.{renumbered_ops}
use Rattle.wasm_types.specs.declared.ids.FuncId.{FuncId}
use Rattle.wasm_types.specs.declared.ids.ImportId.{ImportId}
use Rattle.wasm_types.specs.declared.ids.TypeId.{TypeId}
use Rattle.wasm_code.specs.declared.body.Body.{Body}
use Rattle.wasm_ops.specs.declared.ops.Numbering.{Numbering}
use Rattle.wasm_ops.specs.declared.ops.Op.{Op}
use Rattle.wasm_types.specs.declared.types.FuncType.{FuncType}
use Rattle.wasm_file.specs.declared.entries.ImportType.{ImportType}
use Rattle.wasm_file.specs.declared.entries.ImportType.TheVariants as asked
use Rattle.wasm_file.specs.declared.entries.Parts.{Parts}
use Rattle.wasm_file_laws.specs.FileFits.{AreJoined}
use Rattle.wasm_file_laws.proofs.EachItem.{all_weaker, all_each, all_both}
use Rattle.wasm_reach.specs.declared.things.Thing.{Thing}
use Rattle.wasm_reach.specs.declared.things.Thing.TheVariants as things
use Rattle.wasm_core.specs.declared.types.Func.{Func}
use Rattle.wasm_core.specs.declared.types.GlobalVar.{GlobalVar}
use Rattle.wasm_core.specs.declared.types.Memory.{Memory}
use Rattle.wasm_core.specs.declared.types.ParseConfig.{ParseConfig}
use Rattle.wasm_core.specs.declared.types.Table.{Table}
use Rattle.wasm_core.specs.declared.types.Tag.{Tag}
use Rattle.wasm_core.specs.Contents.{Contents}
use Rattle.wasm_emission.specs.Emission.{live, file_type, file_start, file_export, file_elem, file_segment}
use Rattle.wasm_core.specs.Parsing.{imports_behind, brought, joined, imported_func, imported_table, imported_memory, imported_global, imported_tag, own_funcs, table_of, memory_of, global_of, tag_of, is_kept, last_name}
use Rattle.wasm_core.specs.Remainder.{import_thing}
use Rattle.wasm_collect.specs.Reach.{entry_at, ops_names, elem_names, segment_names, item_thing}
use Rattle.wasm_emission.specs.Renumbering.{never, numbers, numbering}
use Rattle.wasm_core_laws.specs.Again.{again, in_order, import_numbers, renumbered_import, renumbered_code, func_again, table_again, memory_again, global_again, tag_again, import_again, all_there, if_wanted}
use Rattle.wasm_core_laws.specs.ModuleFits.{Stands, AllStand, IfThere, AllThere, FitsFunc, FitsCode, FitsInit, FitsGlobalEntry, FitsTagEntry, FitsImportEntry, FitsExportEntry, FitsElemEntry, FitsSegmentEntry, IsStart, IsModule, func_imported, table_imported, memory_imported, global_imported, tag_imported}
use Rattle.wasm_core_laws.proofs.Everywhere.{all_pairs, all_kept, all_filtered, all_same, all_pass}
use Rattle.wasm_core_laws.proofs.Filled.{names_given, imported_funcs, other_funcs, filled, same_body, funcs_below, tables_below, memories_below, globals_below, tags_below, funcs_own, tables_own, memories_own, globals_own, tags_own, funcs_imported, tables_imported, memories_imported, globals_imported, tags_imported, funcs_not_imported, tables_not_imported, memories_not_imported, globals_not_imported, tags_not_imported}
use Rattle.wasm_core_laws.proofs.ImportsBehind.{IsImportedBelow, behind_some, behind_count}
use Rattle.wasm_core_laws.proofs.ParsedNames.{all_named}
use Rattle.wasm_core_laws.proofs.SameNames.{IsSame, ops_same, export_same, kind_same, elem_same, segment_same}
use Rattle.wasm_core_laws.proofs.SameNumbers.{number_same, never_same, order_same}
use Rattle.wasm_core_laws.proofs.Entries.{all_live, live_some, joined_some, joined_count, stands_within}

-- ---- numbers

-- where entries are all there, imported ones first, a place where one stands is its number
joined_number : {A : Type 0} (test : A → Bool) (xs ys : List A) → AllByRecursion (λ x. test x ≡ true) xs → AllByRecursion (λ y. test y ≡ false) ys → (i : ℕ) → is_some (entry_at (joined xs ys) i) ≡ true → number_at (numbers test (joined xs ys)) i ≡ i
joined_number test xs ys h k i is = number_same test xs ys h k i (omega (arith, stands_within (joined xs ys) i is, joined_count xs ys))

-- where entries are all there, none of them imported
own_number : {A : Type 0} (xs : List A) (i : ℕ) → is_some (entry_at (map Some xs) i) ≡ true → number_at (numbers never (map Some xs)) i ≡ i
own_number xs i is = never_same xs i (omega (arith, stands_within (map Some xs) i is, length-map xs Some))

module _ (config : ParseConfig) (p : Parts) where
  -- what stands has its place as its number
  stands_same : (t : Thing) → Stands (filled config p) t → IsSame (numbering (filled config p)) t
  unfolding numbering
  stands_same (things.Type i) h = own_number p.types i h
  stands_same (things.Func i) h = joined_number func_imported (imported_funcs p) (other_funcs p) (funcs_imported p) (funcs_not_imported p) i h
  stands_same (things.Table i) h = joined_number table_imported (brought imported_table p.imports) (map table_of p.tables) (tables_imported p) (tables_not_imported p) i h
  stands_same (things.Memory i) h = joined_number memory_imported (brought imported_memory p.imports) (map memory_of p.memories) (memories_imported p) (memories_not_imported p) i h
  stands_same (things.Global i) h = joined_number global_imported (brought imported_global p.imports) (map global_of p.globals) (globals_imported p) (globals_not_imported p) i h
  stands_same (things.Tag i) h = joined_number tag_imported (brought imported_tag p.imports) (map tag_of p.tags) (tags_imported p) (tags_not_imported p) i h
  stands_same (things.Elem i) h = own_number p.elems i h
  stands_same (things.Segment i) h = own_number p.segments i h

  -- things that stand have their places as their numbers
  all_stand_same : (ts : List Thing) → AllStand (filled config p) ts → AllByRecursion (IsSame (numbering (filled config p))) ts
  all_stand_same ts h = all_weaker (Stands (filled config p)) (IsSame (numbering (filled config p))) stands_same ts h

  -- ---- entries

  -- the import that an entry names
  import_same : {A : Type 0} (import_of : A → Option ImportId) (x : A) → IsImportedBelow (length p.imports) import_of x → renumbered_import (filled config p) (import_of x) ≡ import_of x
  import_same import_of x h =
      let xs = live (imports_behind [] p.imports) in
      let number : number_at (import_numbers (filled config p)) h.0 ≡ h.0 =
      ap (λ xs. number_at (numbers never xs) h.0) (behind_some [] p.imports) ∙ never_same xs h.0 (omega (arith, h.1, behind_count [] p.imports)) in
      ap (renumbered_import (filled config p)) h.2 ∙ ap (λ k. Some (record { 0 = k })) number ∙ sym h.2

  -- no import stays none
  no_import : {A : Type 0} (import_of : A → Option ImportId) (x : A) → import_of x ≡ None → renumbered_import (filled config p) (import_of x) ≡ import_of x
  no_import import_of x h = ap (renumbered_import (filled config p)) h ∙ sym h

  -- the imports that entries name, imported and others
  imports_same : {A : Type 0} (import_of : A → Option ImportId) (xs ys : List A) → AllByRecursion (IsImportedBelow (length p.imports) import_of) xs → AllByRecursion (λ y. import_of y ≡ None) ys
      → AllByRecursion (λ x. renumbered_import (filled config p) (import_of x) ≡ import_of x) (xs ++ ys)
  imports_same {A} import_of xs ys h k =
      let P : A → Type 0 = λ x. renumbered_import (filled config p) (import_of x) ≡ import_of x in
      all_both P xs ys (all_weaker (IsImportedBelow (length p.imports) import_of) P (import_same import_of) xs h) (all_weaker (λ y. import_of y ≡ None) P (no_import import_of) ys k)

  -- the number of a type that stands is its place
  type_same : (ty : TypeId) → Stands (filled config p) (things.Type ty.0) → file_type (numbering (filled config p)) ty ≡ ty
  type_same ty h = ap (λ k. record { 0 = k }) (stands_same (things.Type ty.0) h)

-- the runs of locals of a body are joined, where there is one
abbrev pub HasJoined : Func → Type 0
HasJoined f = IfThere (λ (b : Body). joined_runs b.locals ≡ b.locals) f.body

module _ (config : ParseConfig) (p : Parts) (is_module : IsModule (filled config p)) (joined_all : AreJoined p) where
  -- the module, and its numbering
  abbrev m : Contents
  m = filled config p

  abbrev n : Numbering
  n = numbering (filled config p)

  -- ---- functions

  -- each body's runs of locals are joined
  own_joined : (functions : List TypeId) (bodies : List Body) → AllByRecursion (λ b. joined_runs b.locals ≡ b.locals) bodies → AllByRecursion HasJoined (own_funcs functions bodies)
  unfolding own_funcs
  own_joined [] bodies h = tt
  own_joined (ty ∷ functions) [] h = tt
  own_joined (ty ∷ functions) (b ∷ bodies) h = (h.0, own_joined functions bodies h.1)

  -- an import has no body
  bodiless : AllByRecursion (λ (f : Func). f.body ≡ None) (brought imported_func p.imports)
  bodiless = all_kept (λ (f : Func). f.body ≡ None) (λ q. imported_func (record { 0 = q.0 }) q.1.ty) (enumerate_from 0 p.imports)
      (all_each (λ q. IfThere (λ (f : Func). f.body ≡ None) (imported_func (record { 0 = q.0 }) q.1.ty)) (λ q. none (record { 0 = q.0 }) q.1.ty) (enumerate_from 0 p.imports))
    where
      none : (i : ImportId) (ty : ImportType) → IfThere (λ (f : Func). f.body ≡ None) (imported_func i ty)
      none i (asked.Func ty) = refl
      none i _ = tt

  -- each function's body has joined runs of locals
  funcs_joined : AllByRecursion HasJoined (imported_funcs p ++ other_funcs p)
  funcs_joined =
      let names = (names_given p).funcs in
      all_both HasJoined (imported_funcs p) (other_funcs p)
      (all_named (λ (f : Func). f.body ≡ None) HasJoined names (λ place f h. subst (λ b. IfThere (λ (b : Body). joined_runs b.locals ≡ b.locals) b) (sym (same_body (last_name names place) f ∙ h)) tt) 0 (brought imported_func p.imports) bodiless)
      (all_named HasJoined HasJoined names (λ place f h. subst (λ b. IfThere (λ (b : Body). joined_runs b.locals ≡ b.locals) b) (sym (same_body (last_name names place) f)) h) (length (brought imported_func p.imports)) (own_funcs p.functions p.bodies) (own_joined p.functions p.bodies joined_all))

  -- a body that names what stands, with new numbers
  code_same : (ty : Option FuncType) (i : Option ImportId) (b : Option Body) → FitsCode m ty i b → IfThere (λ (b : Body). joined_runs b.locals ≡ b.locals) b → renumbered_code n b ≡ b
  code_same ty i None h k = refl
  code_same ty (Some i) (Some b) h k = absurd h
  code_same ty None (Some b) h k =
      let names : renumbered_ops n b.ops ≡ b.ops = ops_same n b.ops (all_stand_same config p (ops_names b.ops) h.1) in
      λ i. Some (record { locals = k i; ops = names i })

  -- a function is as it was, where names are written
  func_same : config.names ≡ true → (f : Func) → FitsFunc m f → HasJoined f → renumbered_import m f.«import» ≡ f.«import» → func_again m f ≡ f
  func_same wanted f h k i =
      let ty : file_type n f.ty ≡ f.ty = type_same config p f.ty h.ty_stands in
      let name : if_wanted config.names f.name ≡ f.name = ap (λ w. if_wanted w f.name) wanted in
      let body : renumbered_code n f.body ≡ f.body = code_same (entry_at m.types f.ty.0) f.«import» f.body h.code_fits k in
      λ j. record { ty = ty j; name = name j; «import» = i j; body = body j }

  -- ---- all of a kind

  -- entries that are all there, each as it was
  kind_is_same : {A : Type 0} (test : A → Bool) (make : A → A) (xs ys : List A) → AllByRecursion (λ x. test x ≡ true) xs → AllByRecursion (λ y. test y ≡ false) ys → AllByRecursion (λ x. make x ≡ x) (xs ++ ys) → all_there make (in_order test (joined xs ys)) ≡ joined xs ys
  kind_is_same test make xs ys h k same = ap (all_there make) (order_same test xs ys h k) ∙ ap (map Some) (all_same make (xs ++ ys) same) ∙ sym (joined_some xs ys)

  -- the same where none is imported
  some_is_same : {A : Type 0} (make : A → A) (xs : List A) → AllByRecursion (λ x. make x ≡ x) xs → all_there make (live (map Some xs)) ≡ map Some xs
  some_is_same make xs same = ap (all_there make) (live_some xs) ∙ ap (map Some) (all_same make xs same)

  -- what fits, of entries that are all there
  of_joined : {A : Type 0} (P : A → Type 0) (xs ys : List A) → AllThere P (joined xs ys) → AllByRecursion P (xs ++ ys)
  of_joined P xs ys h = subst (AllByRecursion P) (ap live (joined_some xs ys) ∙ live_some (xs ++ ys)) (all_live P (joined xs ys) h)

  -- the same where none is imported
  of_some : {A : Type 0} (P : A → Type 0) (xs : List A) → AllThere P (map Some xs) → AllByRecursion P xs
  of_some P xs h = subst (AllByRecursion P) (live_some xs) (all_live P (map Some xs) h)

  -- the entries of each kind are as they were
  funcs_are : config.names ≡ true → all_there (func_again m) (in_order func_imported m.funcs) ≡ m.funcs
  funcs_are wanted =
      let fs = imported_funcs p ++ other_funcs p in
      let Q : Func → Type 0 = λ f. renumbered_import m f.«import» ≡ f.«import» in
      kind_is_same func_imported (func_again m) (imported_funcs p) (other_funcs p) (funcs_imported p) (funcs_not_imported p)
      (all_weaker (λ f. FitsFunc m f × (HasJoined f × Q f)) (λ f. func_again m f ≡ f) (λ f h. func_same wanted f h.0 h.1.0 h.1.1) fs
      (all_pairs (FitsFunc m) (λ f. HasJoined f × Q f) fs (of_joined (FitsFunc m) (imported_funcs p) (other_funcs p) is_module.funcs)
      (all_pairs HasJoined Q fs funcs_joined (imports_same config p (λ (f : Func). f.«import») (imported_funcs p) (other_funcs p) (funcs_below p) (funcs_own p)))))

  -- tables, memories, global variables and tags are read again as themselves
  tables_are : all_there (table_again m) (in_order table_imported m.tables) ≡ m.tables
  tables_are =
      let xs = brought imported_table p.imports in
      let ys = map table_of p.tables in
      kind_is_same table_imported (table_again m) xs ys (tables_imported p) (tables_not_imported p)
      (all_weaker (λ (t : Table). renumbered_import m t.«import» ≡ t.«import») (λ t. table_again m t ≡ t) (λ t h. ap (λ i. record t { «import» = i }) h) (xs ++ ys)
      (imports_same config p (λ (t : Table). t.«import») xs ys (tables_below p) (tables_own p)))

  memories_are : all_there (memory_again m) (in_order memory_imported m.memories) ≡ m.memories
  memories_are =
      let xs = brought imported_memory p.imports in
      let ys = map memory_of p.memories in
      kind_is_same memory_imported (memory_again m) xs ys (memories_imported p) (memories_not_imported p)
      (all_weaker (λ (x : Memory). renumbered_import m x.«import» ≡ x.«import») (λ x. memory_again m x ≡ x) (λ x h. ap (λ i. record x { «import» = i }) h) (xs ++ ys)
      (imports_same config p (λ (x : Memory). x.«import») xs ys (memories_below p) (memories_own p)))

  -- an initial expression is as it was
  init_same : (i : Option ImportId) (init : List Op) → FitsInit m i init → renumbered_ops n init ≡ init
  init_same None init h = ops_same n init (all_stand_same config p (ops_names init) h.1)
  init_same (Some i) init h = ap (renumbered_ops n) h ∙ sym h

  -- a global is as it was
  global_same : (g : GlobalVar) → FitsGlobalEntry m g × (renumbered_import m g.«import» ≡ g.«import») → global_again m g ≡ g
  global_same g h =
      let init : renumbered_ops n g.init ≡ g.init = init_same g.«import» g.init h.0 in
      let named : renumbered_import m g.«import» ≡ g.«import» = h.1 in
      λ j. record g { «import» = named j; init = init j }

  globals_are : all_there (global_again m) (in_order global_imported m.globals) ≡ m.globals
  globals_are =
      let xs = brought imported_global p.imports in
      let ys = map global_of p.globals in
      let Q : GlobalVar → Type 0 = λ g. renumbered_import m g.«import» ≡ g.«import» in
      kind_is_same global_imported (global_again m) xs ys (globals_imported p) (globals_not_imported p)
      (all_weaker (λ g. FitsGlobalEntry m g × Q g) (λ g. global_again m g ≡ g) global_same (xs ++ ys)
      (all_pairs (FitsGlobalEntry m) Q (xs ++ ys) (of_joined (FitsGlobalEntry m) xs ys is_module.globals) (imports_same config p (λ (g : GlobalVar). g.«import») xs ys (globals_below p) (globals_own p))))

  -- a tag is as it was
  tag_same : (t : Tag) → FitsTagEntry m t × (renumbered_import m t.«import» ≡ t.«import») → tag_again m t ≡ t
  tag_same t h =
      let ty : file_type n t.ty ≡ t.ty = type_same config p t.ty h.0 in
      let named : renumbered_import m t.«import» ≡ t.«import» = h.1 in
      λ j. record { ty = ty j; «import» = named j }

  tags_are : all_there (tag_again m) (in_order tag_imported m.tags) ≡ m.tags
  tags_are =
      let xs = brought imported_tag p.imports in
      let ys = map tag_of p.tags in
      let Q : Tag → Type 0 = λ t. renumbered_import m t.«import» ≡ t.«import» in
      kind_is_same tag_imported (tag_again m) xs ys (tags_imported p) (tags_not_imported p)
      (all_weaker (λ t. FitsTagEntry m t × Q t) (λ t. tag_again m t ≡ t) tag_same (xs ++ ys)
      (all_pairs (FitsTagEntry m) Q (xs ++ ys) (of_joined (FitsTagEntry m) xs ys is_module.tags) (imports_same config p (λ (t : Tag). t.«import») xs ys (tags_below p) (tags_own p))))

  -- so are imports, exports and segments
  imports_are : all_there (import_again m) (live m.imports) ≡ m.imports
  imports_are =
      let xs = live (imports_behind [] p.imports) in
      ap (map Some) (all_same (import_again m) xs (all_weaker (FitsImportEntry m) (λ i. import_again m i ≡ i)
      (λ i h. ap (λ k. record i { kind = k }) (kind_same n i.kind (stands_same config p (import_thing i.kind) h.item_stands))) xs (all_live (FitsImportEntry m) (imports_behind [] p.imports) is_module.imports)))
      ∙ sym (behind_some [] p.imports)

  exports_are : all_there (file_export n) (live m.exports) ≡ m.exports
  exports_are = some_is_same (file_export n) p.exports (all_weaker (FitsExportEntry m) (λ e. file_export n e ≡ e)
      (λ e h. export_same n e (stands_same config p (item_thing e.item) h.item_stands)) p.exports (of_some (FitsExportEntry m) p.exports is_module.exports))

  elems_are : all_there (file_elem n) (live m.elems) ≡ m.elems
  elems_are = some_is_same (file_elem n) p.elems (all_weaker (FitsElemEntry m) (λ e. file_elem n e ≡ e)
      (λ e h. elem_same n e (all_stand_same config p (elem_names (Some e)) h.named_stand)) p.elems (of_some (FitsElemEntry m) p.elems is_module.elems))

  segments_are : all_there (file_segment n) (live m.segments) ≡ m.segments
  segments_are = some_is_same (file_segment n) p.segments (all_weaker (FitsSegmentEntry m) (λ s. file_segment n s ≡ s)
      (λ s h. segment_same n s (all_stand_same config p (segment_names (Some s)) h.named_stand)) p.segments (of_some (FitsSegmentEntry m) p.segments is_module.segments))

  -- the start function is as it was
  start_same : (start : Option FuncId) → IsStart m start → file_start n start ≡ start
  start_same (Some func) h = ap (λ k. Some (record { 0 = k })) (stands_same config p (things.Func func.0) h.0)
  start_same None h = refl

  -- the custom sections that stay are those that stayed
  customs_are : filter (is_kept config.keep_debug) m.customs ≡ m.customs
  customs_are = all_pass (is_kept config.keep_debug) m.customs
      (all_weaker (λ c. Unit {0} × (is_kept config.keep_debug c ≡ true)) (λ c. is_kept config.keep_debug c ≡ true) (λ c h. h.1) m.customs
      (all_filtered (λ c. Unit {0}) (is_kept config.keep_debug) p.customs (all_each (λ c. Unit {0}) (λ c. tt) p.customs)))

  -- ---- the module

  -- The module is read again as itself, where names and producers are written.
  pub filled_is_same : config.names ≡ true → config.producers ≡ true → again config m ≡ m
  unfolding again
  filled_is_same names producers =
      let types : map Some (live m.types) ≡ m.types = ap (map Some) (live_some p.types) in
      let funcs : all_there (func_again m) (in_order func_imported m.funcs) ≡ m.funcs = funcs_are names in
      let start : file_start n m.start ≡ m.start = start_same p.start is_module.start in
      let name : if_wanted config.names m.name ≡ m.name = ap (λ w. if_wanted w m.name) names in
      let fields : (if config.producers then m.producers else []) ≡ m.producers = ap (λ w. if w then m.producers else []) producers in
      λ i. record {
        types = types i;
        funcs = funcs i;
        tables = tables_are i;
        memories = memories_are i;
        globals = globals_are i;
        tags = tags_are i;
        imports = imports_are i;
        exports = exports_are i;
        elems = elems_are i;
        segments = segments_are i;
        customs = customs_are i;
        start = start i;
        name = name i;
        producers = fields i;
        config = config;
      }
