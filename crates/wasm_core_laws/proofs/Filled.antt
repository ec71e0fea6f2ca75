-- The module of a file's lists, with entries of each kind that are all there, imported ones first.
use Rattle.std.proofs.Common.{◌≡◌, ℕ, suc, ◌+◌, ◌≤◌, true, false, List, [], ◌∷◌, map, length, Option, Some, None, refl, ap, ◌∙◌, arith}
use Rattle.std.specs.Prelude.{count_by, is_some}
use Rattle.std.specs.List.{AllByRecursion, filter}
use Rattle.std.proofs.lemmas.Bool.{eqb-true}
use Rattle.std.proofs.lemmas.List.{length-map}
use Rattle.wasm_bytes.specs.declared.counts.Counts.{Counts}
use Rattle.wasm_ops.specs.Numbers.{or_zero}
use Rattle.wasm_types.specs.declared.ids.ImportId.{ImportId}
use Rattle.wasm_types.specs.declared.ids.TypeId.{TypeId}
use Rattle.wasm_code.specs.declared.body.Body.{Body}
use Rattle.wasm_types.specs.declared.types.FuncType.{FuncType}
use Rattle.wasm_file.specs.Parts.{number_of, is_func, is_table, is_memory, is_global, is_tag, counts_of}
use Rattle.wasm_file.specs.Sections.{is_told}
use Rattle.wasm_file.specs.declared.entries.Names.{Names}
use Rattle.wasm_file.specs.declared.entries.Parts.{Parts}
use Rattle.wasm_file_laws.specs.FileFits.{FitBodies, FitsFile}
use Rattle.wasm_file_laws.proofs.CountsGrow.{AreAtMost}
use Rattle.wasm_file_laws.proofs.EachItem.{all_weaker, all_each}
use Rattle.wasm_core.specs.declared.types.Func.{Func}
use Rattle.wasm_core.specs.declared.types.GlobalVar.{GlobalVar}
use Rattle.wasm_core.specs.declared.types.Memory.{Memory}
use Rattle.wasm_core.specs.declared.types.ParseConfig.{ParseConfig}
use Rattle.wasm_core.specs.declared.types.Table.{Table}
use Rattle.wasm_core.specs.declared.types.Tag.{Tag}
use Rattle.wasm_core.specs.Contents.{Contents}
use Rattle.wasm_core.specs.Parsing.{asks_func, asks_table, asks_memory, asks_global, asks_tag, imports_behind, brought, joined, imported_func, imported_table, imported_memory, imported_global, imported_tag, own_funcs, table_of, memory_of, global_of, tag_of, all_names, all_funcs, all_producers, is_kept, assembled}
use Rattle.wasm_core_laws.specs.ModuleFits.{id_counts, func_brought, table_brought, memory_brought, global_brought, tag_brought}
use Rattle.wasm_core_laws.proofs.Everywhere.{all_map}
use Rattle.wasm_core_laws.proofs.FitsStand.{HasCounted}
use Rattle.wasm_core_laws.proofs.ImportKinds.{func_kind, table_kind, memory_kind, global_kind, tag_kind, funcs_counted, tables_counted, memories_counted, globals_counted, tags_counted}
use Rattle.wasm_core_laws.proofs.ImportsBehind.{IsImportedBelow, imported_below, brought_count}
use Rattle.wasm_core_laws.proofs.ParsedNames.{named_func, named_from, names_joined, all_named}
use Rattle.wasm_core_laws.proofs.Entries.{some_stands, joined_stands, joined_count}

module _ (p : Parts) where
  -- the names that the file gives
  abbrev pub names_given : Names
  names_given = all_names (length (all_funcs p)) p.customs

  -- imported functions and the others, with names
  abbrev pub imported_funcs : List Func
  imported_funcs = named_from names_given.funcs 0 (brought imported_func p.imports)

  -- the functions that are not imported, with names
  abbrev pub other_funcs : List Func
  other_funcs = named_from names_given.funcs (length (brought imported_func p.imports)) (own_funcs p.functions p.bodies)

-- the same module, where functions have their names
abbrev pub filled : ParseConfig → Parts → Contents
filled config p = record {
  types = map Some p.types;
  funcs = joined (imported_funcs p) (other_funcs p);
  tables = joined (brought imported_table p.imports) (map table_of p.tables);
  memories = joined (brought imported_memory p.imports) (map memory_of p.memories);
  globals = joined (brought imported_global p.imports) (map global_of p.globals);
  tags = joined (brought imported_tag p.imports) (map tag_of p.tags);
  imports = imports_behind [] p.imports;
  exports = map Some p.exports;
  elems = map Some p.elems;
  segments = map Some p.segments;
  customs = filter (is_kept config.keep_debug) p.customs;
  start = p.start;
  name = (names_given p).«module»;
  producers = all_producers p.customs;
  config = config;
}

-- it is the module that is assembled
pub assembled_is : (config : ParseConfig) (p : Parts) → assembled config p ≡ filled config p
unfolding assembled
assembled_is config p = ap (λ fs. record (filled config p) { funcs = fs }) (names_joined (names_given p).funcs (brought imported_func p.imports) (own_funcs p.functions p.bodies))

-- ---- imported entries and others

-- the entry is imported, or it isn't
abbrev pub AreImported : {A : Type 0} → (A → Option ImportId) → List A → Type 0
AreImported import_of xs = AllByRecursion (λ x. is_some (import_of x) ≡ true) xs

-- none of the entries is imported
abbrev pub AreOwn : {A : Type 0} → (A → Option ImportId) → List A → Type 0
AreOwn import_of xs = AllByRecursion (λ x. is_some (import_of x) ≡ false) xs

-- entries that name the import of a place are imported
are_imported : {A : Type 0} (n : ℕ) (import_of : A → Option ImportId) (xs : List A) → AllByRecursion (IsImportedBelow n import_of) xs → AreImported import_of xs
are_imported n import_of xs h = all_weaker (IsImportedBelow n import_of) (λ x. is_some (import_of x) ≡ true) (λ x h. ap is_some h.2) xs h

-- entries without an import are not
are_own : {A : Type 0} (import_of : A → Option ImportId) (xs : List A) → AllByRecursion (λ x. import_of x ≡ None) xs → AreOwn import_of xs
are_own import_of xs h = all_weaker (λ x. import_of x ≡ None) (λ x. is_some (import_of x) ≡ false) (λ x h. ap is_some h) xs h

-- a name leaves the import, the type and the body as they are
pub same_import : (name : Option (List ℕ)) (f : Func) → (named_func name f).«import» ≡ f.«import»
same_import (Some name) f = refl
same_import None f = refl

pub same_ty : (name : Option (List ℕ)) (f : Func) → (named_func name f).ty ≡ f.ty
same_ty (Some name) f = refl
same_ty None f = refl

pub same_body : (name : Option (List ℕ)) (f : Func) → (named_func name f).body ≡ f.body
same_body (Some name) f = refl
same_body None f = refl

module _ (p : Parts) where
  -- imported entries name the import of a place
  pub funcs_below : AllByRecursion (IsImportedBelow (length p.imports) (λ (f : Func). f.«import»)) (imported_funcs p)
  funcs_below =
      let P = IsImportedBelow (length p.imports) (λ (f : Func). f.«import») in
      all_named P P (names_given p).funcs (λ place f h. (h.0, h.1, same_import _ f ∙ h.2)) 0 (brought imported_func p.imports)
      (imported_below asks_func imported_func (λ (f : Func). f.«import») func_brought func_kind p.imports)

  -- the same of tables, memories, global variables and tags
  pub tables_below : AllByRecursion (IsImportedBelow (length p.imports) (λ (t : Table). t.«import»)) (brought imported_table p.imports)
  tables_below = imported_below asks_table imported_table (λ (t : Table). t.«import») table_brought table_kind p.imports

  pub memories_below : AllByRecursion (IsImportedBelow (length p.imports) (λ (x : Memory). x.«import»)) (brought imported_memory p.imports)
  memories_below = imported_below asks_memory imported_memory (λ (x : Memory). x.«import») memory_brought memory_kind p.imports

  pub globals_below : AllByRecursion (IsImportedBelow (length p.imports) (λ (g : GlobalVar). g.«import»)) (brought imported_global p.imports)
  globals_below = imported_below asks_global imported_global (λ (g : GlobalVar). g.«import») global_brought global_kind p.imports

  pub tags_below : AllByRecursion (IsImportedBelow (length p.imports) (λ (t : Tag). t.«import»)) (brought imported_tag p.imports)
  tags_below = imported_below asks_tag imported_tag (λ (t : Tag). t.«import») tag_brought tag_kind p.imports

  -- functions of one's own have no import
  pub funcs_own : AllByRecursion (λ (f : Func). f.«import» ≡ None) (other_funcs p)
  unfolding own_funcs
  funcs_own = all_named (λ (f : Func). f.«import» ≡ None) (λ (f : Func). f.«import» ≡ None) (names_given p).funcs (λ place f h. same_import _ f ∙ h) (length (brought imported_func p.imports)) (own_funcs p.functions p.bodies) (none p.functions p.bodies)
    where
      none : (types : List TypeId) (bodies : List Body) → AllByRecursion (λ (f : Func). f.«import» ≡ None) (own_funcs types bodies)
      none [] bodies = tt
      none (ty ∷ types) [] = tt
      none (ty ∷ types) (b ∷ bodies) = (refl, none types bodies)

  -- entries of one's own have no import
  pub tables_own : AllByRecursion (λ (t : Table). t.«import» ≡ None) (map table_of p.tables)
  tables_own = all_map (λ (t : Table). t.«import» ≡ None) table_of p.tables (all_each (λ x. (table_of x).«import» ≡ None) (λ x. refl) p.tables)

  pub memories_own : AllByRecursion (λ (x : Memory). x.«import» ≡ None) (map memory_of p.memories)
  memories_own = all_map (λ (x : Memory). x.«import» ≡ None) memory_of p.memories (all_each (λ x. (memory_of x).«import» ≡ None) (λ x. refl) p.memories)

  pub globals_own : AllByRecursion (λ (g : GlobalVar). g.«import» ≡ None) (map global_of p.globals)
  globals_own = all_map (λ (g : GlobalVar). g.«import» ≡ None) global_of p.globals (all_each (λ x. (global_of x).«import» ≡ None) (λ x. refl) p.globals)

  pub tags_own : AllByRecursion (λ (t : Tag). t.«import» ≡ None) (map tag_of p.tags)
  tags_own = all_map (λ (t : Tag). t.«import» ≡ None) tag_of p.tags (all_each (λ x. (tag_of x).«import» ≡ None) (λ x. refl) p.tags)

module _ (p : Parts) where
  -- each of the imported entries is, and none of the others
  pub funcs_imported : AreImported (λ (f : Func). f.«import») (imported_funcs p)
  funcs_imported = are_imported (length p.imports) (λ (f : Func). f.«import») (imported_funcs p) (funcs_below p)

  pub funcs_not_imported : AreOwn (λ (f : Func). f.«import») (other_funcs p)
  funcs_not_imported = are_own (λ (f : Func). f.«import») (other_funcs p) (funcs_own p)

  pub tables_imported : AreImported (λ (t : Table). t.«import») (brought imported_table p.imports)
  tables_imported = are_imported (length p.imports) (λ (t : Table). t.«import») (brought imported_table p.imports) (tables_below p)

  pub tables_not_imported : AreOwn (λ (t : Table). t.«import») (map table_of p.tables)
  tables_not_imported = are_own (λ (t : Table). t.«import») (map table_of p.tables) (tables_own p)

  pub memories_imported : AreImported (λ (x : Memory). x.«import») (brought imported_memory p.imports)
  memories_imported = are_imported (length p.imports) (λ (x : Memory). x.«import») (brought imported_memory p.imports) (memories_below p)

  pub memories_not_imported : AreOwn (λ (x : Memory). x.«import») (map memory_of p.memories)
  memories_not_imported = are_own (λ (x : Memory). x.«import») (map memory_of p.memories) (memories_own p)

  pub globals_imported : AreImported (λ (g : GlobalVar). g.«import») (brought imported_global p.imports)
  globals_imported = are_imported (length p.imports) (λ (g : GlobalVar). g.«import») (brought imported_global p.imports) (globals_below p)

  pub globals_not_imported : AreOwn (λ (g : GlobalVar). g.«import») (map global_of p.globals)
  globals_not_imported = are_own (λ (g : GlobalVar). g.«import») (map global_of p.globals) (globals_own p)

  pub tags_imported : AreImported (λ (t : Tag). t.«import») (brought imported_tag p.imports)
  tags_imported = are_imported (length p.imports) (λ (t : Tag). t.«import») (brought imported_tag p.imports) (tags_below p)

  pub tags_not_imported : AreOwn (λ (t : Tag). t.«import») (map tag_of p.tags)
  tags_not_imported = are_own (λ (t : Tag). t.«import») (map tag_of p.tags) (tags_own p)

-- ---- counts

-- names change no number
named_count : (p : Parts) (from : ℕ) (fs : List Func) → length (named_from (names_given p).funcs from fs) ≡ length fs
named_count p from [] = refl
named_count p from (f ∷ fs) = ap suc (named_count p (from + 1) fs)

-- each function has a body
own_count : (counts : Counts) (types : List FuncType) (functions : List TypeId) (bodies : List Body) → FitBodies counts types functions bodies → length (own_funcs functions bodies) ≡ length functions
unfolding own_funcs
own_count counts types [] bodies h = refl
own_count counts types (ty ∷ functions) [] h = absurd h
own_count counts types (ty ∷ functions) (b ∷ bodies) h = ap suc (own_count counts types functions bodies h.1)

module _ (p : Parts) where
  -- as many imported entries as imports that ask for them
  pub imported_funcs_count : length (imported_funcs p) ≡ count_by asks_func p.imports
  imported_funcs_count = named_count p 0 (brought imported_func p.imports) ∙ brought_count asks_func imported_func (λ (f : Func). f.«import») func_brought func_kind p.imports

  pub imported_tables_count : length (brought imported_table p.imports) ≡ count_by asks_table p.imports
  imported_tables_count = brought_count asks_table imported_table (λ (t : Table). t.«import») table_brought table_kind p.imports

  pub imported_memories_count : length (brought imported_memory p.imports) ≡ count_by asks_memory p.imports
  imported_memories_count = brought_count asks_memory imported_memory (λ (x : Memory). x.«import») memory_brought memory_kind p.imports

  pub imported_globals_count : length (brought imported_global p.imports) ≡ count_by asks_global p.imports
  imported_globals_count = brought_count asks_global imported_global (λ (g : GlobalVar). g.«import») global_brought global_kind p.imports

  pub imported_tags_count : length (brought imported_tag p.imports) ≡ count_by asks_tag p.imports
  imported_tags_count = brought_count asks_tag imported_tag (λ (t : Tag). t.«import») tag_brought tag_kind p.imports

  -- as many functions as are counted, and so on
  pub funcs_count : FitsFile p → number_of is_func p.imports + length p.functions ≡ length (imported_funcs p) + length (other_funcs p)
  funcs_count fits =
      let others = named_count p (length (brought imported_func p.imports)) (own_funcs p.functions p.bodies) in
      omega (arith, funcs_counted p.imports, imported_funcs_count, others, own_count (counts_of p) p.types p.functions p.bodies fits.bodies_fit)

  -- as many tables, memories, globals and tags as are counted
  pub tables_count : number_of is_table p.imports + length p.tables ≡ length (brought imported_table p.imports) + length (map table_of p.tables)
  tables_count = omega (arith, tables_counted p.imports, imported_tables_count, length-map p.tables table_of)

  pub memories_count : number_of is_memory p.imports + length p.memories ≡ length (brought imported_memory p.imports) + length (map memory_of p.memories)
  memories_count = omega (arith, memories_counted p.imports, imported_memories_count, length-map p.memories memory_of)

  pub globals_count : number_of is_global p.imports + length p.globals ≡ length (brought imported_global p.imports) + length (map global_of p.globals)
  globals_count = omega (arith, globals_counted p.imports, imported_globals_count, length-map p.globals global_of)

  pub tags_count : number_of is_tag p.imports + length p.tags ≡ length (brought imported_tag p.imports) + length (map tag_of p.tags)
  tags_count = omega (arith, tags_counted p.imports, imported_tags_count, length-map p.tags tag_of)

-- a number of segments that is told is theirs
told_few : (told : Option ℕ) (n : ℕ) → is_told told n ≡ true → or_zero told ≤ n
told_few (Some k) n is = let same : n ≡ k = eqb-true n k is in omega (arith, same)
told_few None n is = omega arith

module _ (config : ParseConfig) (p : Parts) (fits : FitsFile p) where
  -- an entry stands at each place that is counted
  pub counted_stand : HasCounted (filled config p) (counts_of p)
  counted_stand = record {
    types = λ i lt. some_stands p.types i lt;
    funcs = λ i lt. joined_stands (imported_funcs p) (other_funcs p) i (omega (arith, lt, funcs_count p fits));
    tables = λ i lt. joined_stands (brought imported_table p.imports) (map table_of p.tables) i (omega (arith, lt, tables_count p));
    memories = λ i lt. joined_stands (brought imported_memory p.imports) (map memory_of p.memories) i (omega (arith, lt, memories_count p));
    globals = λ i lt. joined_stands (brought imported_global p.imports) (map global_of p.globals) i (omega (arith, lt, globals_count p));
    tags = λ i lt. joined_stands (brought imported_tag p.imports) (map tag_of p.tags) i (omega (arith, lt, tags_count p));
    elems = λ i lt. some_stands p.elems i lt;
    segments = λ i lt. some_stands p.segments i (omega (arith, lt, told_few p.data_count (length p.segments) fits.count_told));
  }

  -- no more entries are counted than there are
  pub counts_below : AreAtMost (counts_of p) (id_counts (filled config p))
  counts_below = record {
    types = omega (arith, length-map p.types Some);
    funcs = omega (arith, funcs_count p fits, joined_count (imported_funcs p) (other_funcs p));
    tables = omega (arith, tables_count p, joined_count (brought imported_table p.imports) (map table_of p.tables));
    memories = omega (arith, memories_count p, joined_count (brought imported_memory p.imports) (map memory_of p.memories));
    globals = omega (arith, globals_count p, joined_count (brought imported_global p.imports) (map global_of p.globals));
    tags = omega (arith, tags_count p, joined_count (brought imported_tag p.imports) (map tag_of p.tags));
    elems = omega (arith, length-map p.elems Some);
    segments = omega (arith, length-map p.segments Some, told_few p.data_count (length p.segments) fits.count_told);
    locals = omega arith;
  }
