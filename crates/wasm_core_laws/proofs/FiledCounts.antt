-- How many entries of each kind the file of a module has.
use Rattle.std.proofs.Common.{◌≡◌, ℕ, suc, ◌+◌, Bool, true, false, cond, not, List, [], ◌∷◌, ◌++◌, length, map, count_by, Option, Some, None, refl, sym, ap, ◌∙◌, arith, inl, inr, ne_eqb, eq-eqb}
use Rattle.std.specs.Prelude.{is_some, slice_get}
use Rattle.std.specs.List.{filter, filter_map, cons_option}
use Rattle.std.proofs.lemmas.Bool.{cases_eq}
use Rattle.std.proofs.lemmas.List.{length-append, length-map, map-append}
use Rattle.std.proofs.lemmas.List.Sums.{sum_by-cons}
use Rattle.wasm_bytes.specs.declared.counts.Counts.{Counts}
use Rattle.wasm_ops.specs.Numbers.{or_zero}
use Rattle.wasm_code.specs.Numbers.{renumbered_ops}
use Rattle.wasm_types.specs.declared.ids.ImportId.{ImportId}
use Rattle.wasm_types.specs.declared.ids.TypeId.{TypeId}
use Rattle.wasm_ops.specs.declared.ops.Numbering.{Numbering}
use Rattle.wasm_file.specs.Parts.{number_of, is_func, is_table, is_memory, is_global, is_tag, counts_of, func_type_of, imported_func_types, func_types}
use Rattle.wasm_file.specs.Sections.{is_told}
use Rattle.wasm_file.specs.declared.entries.FileImport.{FileImport}
use Rattle.wasm_file.specs.declared.entries.ImportType.{ImportType}
use Rattle.wasm_file.specs.declared.entries.ImportType.TheVariants as asked
use Rattle.wasm_core.specs.declared.types.Func.{Func}
use Rattle.wasm_core.specs.declared.types.GlobalVar.{GlobalVar}
use Rattle.wasm_core.specs.declared.types.Import.{Import}
use Rattle.wasm_core.specs.declared.types.ImportKind.{ImportKind}
use Rattle.wasm_core.specs.declared.types.ImportKind.TheVariants as kinds
use Rattle.wasm_core.specs.declared.types.Memory.{Memory}
use Rattle.wasm_core.specs.declared.types.Table.{Table}
use Rattle.wasm_core.specs.declared.types.Tag.{Tag}
use Rattle.wasm_core.specs.Contents.{Contents}
use Rattle.wasm_emission.specs.Emission.{live, own, own_type, file_type, func_asked, table_asked, memory_asked, global_asked, tag_asked, import_asked, import_of_type, file_import, file_elem, some_count, filed_by}
use Rattle.wasm_collect.specs.Reach.{entry_of, entry_at, passes, places}
use Rattle.wasm_emission.proofs.Filed.{counted}
use Rattle.wasm_core_laws.specs.Again.{in_order}
use Rattle.wasm_core_laws.specs.ModuleFits.{AreInOrder, func_brought, table_brought, memory_brought, global_brought, tag_brought, func_imported, table_imported, memory_imported, global_imported, tag_imported}

-- ---- entries at the places of those that pass

-- the entry at a place that is given
abbrev pub brought_entry : {A : Type 0} → List (Option A) → Option ℕ → Option A
brought_entry xs (Some i) = entry_at xs i
brought_entry xs None = None

module _ {A : Type 0} (test : A → Bool) (whole : List (Option A)) where
  -- an entry at a place that is taken is one more
  place_kept : (b : Bool) (x : A) (k : ℕ) (ks : List ℕ) (ys : List A) → entry_at whole k ≡ Some x → filter_map (entry_at whole) ks ≡ ys → filter_map (entry_at whole) (cond b (k ∷ []) [] ++ ks) ≡ cond b (x ∷ ys) ys
  place_kept true x k ks ys at h = ap (λ o. cons_option o (filter_map (entry_at whole) ks)) at ∙ ap (λ zs. x ∷ zs) h
  place_kept false x k ks ys at h = h

  -- so is one that passes
  place_taken : (o : Option A) (k : ℕ) (ks : List ℕ) (l : List A) → entry_at whole k ≡ o → filter_map (entry_at whole) ks ≡ filter test l → filter_map (entry_at whole) (cond (passes test o) (k ∷ []) [] ++ ks) ≡ filter test (cons_option o l)
  place_taken None k ks l at h = h
  place_taken (Some x) k ks l at h = place_kept (test x) x k ks (filter test l) at h

  -- the entries at the places from one on
  places_from : (xs : List (Option A)) (k : ℕ) → ((i : ℕ) → entry_at whole (k + i) ≡ entry_at xs i) → filter_map (entry_at whole) (places test k xs) ≡ filter test (live xs)
  unfolding places
  places_from [] k at = refl
  places_from (o ∷ xs) k at =
      let e : k ≡ k + 0 = omega arith in
      place_taken o k (places test (k + 1) xs) (live xs) (ap (entry_at whole) e ∙ at 0) (places_from xs (k + 1) (λ i. let next : k + 1 + i ≡ k + suc i = omega arith in ap (entry_at whole) next ∙ at (suc i)))

-- the entries at the places of those that pass are these
pub places_found : {A : Type 0} (test : A → Bool) (xs : List (Option A)) → filter_map (entry_at xs) (places test 0 xs) ≡ filter test (live xs)
places_found test xs = places_from test xs xs 0 (λ i. let e : 0 + i ≡ i = omega arith in ap (entry_at xs) e)

-- ---- what imports ask for

module _ (m : Contents) (n : Numbering) where
  -- what is asked for a function that is there passes, or not, as the test tells of functions
  func_passes : (test : ImportType → Bool) (b : Bool) → ((ty : TypeId) → test (asked.Func ty) ≡ b) → (o : Option (Option Func)) → passes test (func_asked n o) ≡ cond b (is_some (entry_of o)) false
  func_passes test true is (Some (Some f)) = is (file_type n f.ty)
  func_passes test false is (Some (Some f)) = is (file_type n f.ty)
  func_passes test true is (Some None) = refl
  func_passes test false is (Some None) = refl
  func_passes test true is None = refl
  func_passes test false is None = refl

  -- the same of tables
  table_passes : (test : ImportType → Bool) (b : Bool) → ((t : Table) → test (asked.Table t.elem t.limits) ≡ b) → (o : Option (Option Table)) → passes test (table_asked o) ≡ cond b (is_some (entry_of o)) false
  table_passes test true is (Some (Some t)) = is t
  table_passes test false is (Some (Some t)) = is t
  table_passes test true is (Some None) = refl
  table_passes test false is (Some None) = refl
  table_passes test true is None = refl
  table_passes test false is None = refl

  -- the same of memories
  memory_passes : (test : ImportType → Bool) (b : Bool) → ((x : Memory) → test (asked.Memory x.limits) ≡ b) → (o : Option (Option Memory)) → passes test (memory_asked o) ≡ cond b (is_some (entry_of o)) false
  memory_passes test true is (Some (Some x)) = is x
  memory_passes test false is (Some (Some x)) = is x
  memory_passes test true is (Some None) = refl
  memory_passes test false is (Some None) = refl
  memory_passes test true is None = refl
  memory_passes test false is None = refl

  -- the same of globals
  global_passes : (test : ImportType → Bool) (b : Bool) → ((g : GlobalVar) → test (asked.Global g.ty g.mutable) ≡ b) → (o : Option (Option GlobalVar)) → passes test (global_asked o) ≡ cond b (is_some (entry_of o)) false
  global_passes test true is (Some (Some g)) = is g
  global_passes test false is (Some (Some g)) = is g
  global_passes test true is (Some None) = refl
  global_passes test false is (Some None) = refl
  global_passes test true is None = refl
  global_passes test false is None = refl

  -- the same of tags
  tag_passes : (test : ImportType → Bool) (b : Bool) → ((ty : TypeId) → test (asked.Tag ty) ≡ b) → (o : Option (Option Tag)) → passes test (tag_asked n o) ≡ cond b (is_some (entry_of o)) false
  tag_passes test true is (Some (Some t)) = is (file_type n t.ty)
  tag_passes test false is (Some (Some t)) = is (file_type n t.ty)
  tag_passes test true is (Some None) = refl
  tag_passes test false is (Some None) = refl
  tag_passes test true is None = refl
  tag_passes test false is None = refl

  -- an import asks for a function where the function that it brings in is there, and so on
  func_agrees : (i : Import) (k : ImportKind) → passes is_func (import_asked m n k) ≡ is_some (brought_entry m.funcs (func_brought (record i { kind = k })))
  unfolding import_asked
  func_agrees i (kinds.Func id) = func_passes is_func true (λ ty. refl) (slice_get m.funcs id.0)
  func_agrees i (kinds.Table id) = table_passes is_func false (λ t. refl) (slice_get m.tables id.0)
  func_agrees i (kinds.Memory id) = memory_passes is_func false (λ x. refl) (slice_get m.memories id.0)
  func_agrees i (kinds.Global id) = global_passes is_func false (λ g. refl) (slice_get m.globals id.0)
  func_agrees i (kinds.Tag id) = tag_passes is_func false (λ ty. refl) (slice_get m.tags id.0)

  -- for a table
  table_agrees : (i : Import) (k : ImportKind) → passes is_table (import_asked m n k) ≡ is_some (brought_entry m.tables (table_brought (record i { kind = k })))
  unfolding import_asked
  table_agrees i (kinds.Func id) = func_passes is_table false (λ ty. refl) (slice_get m.funcs id.0)
  table_agrees i (kinds.Table id) = table_passes is_table true (λ t. refl) (slice_get m.tables id.0)
  table_agrees i (kinds.Memory id) = memory_passes is_table false (λ x. refl) (slice_get m.memories id.0)
  table_agrees i (kinds.Global id) = global_passes is_table false (λ g. refl) (slice_get m.globals id.0)
  table_agrees i (kinds.Tag id) = tag_passes is_table false (λ ty. refl) (slice_get m.tags id.0)

  -- for a memory
  memory_agrees : (i : Import) (k : ImportKind) → passes is_memory (import_asked m n k) ≡ is_some (brought_entry m.memories (memory_brought (record i { kind = k })))
  unfolding import_asked
  memory_agrees i (kinds.Func id) = func_passes is_memory false (λ ty. refl) (slice_get m.funcs id.0)
  memory_agrees i (kinds.Table id) = table_passes is_memory false (λ t. refl) (slice_get m.tables id.0)
  memory_agrees i (kinds.Memory id) = memory_passes is_memory true (λ x. refl) (slice_get m.memories id.0)
  memory_agrees i (kinds.Global id) = global_passes is_memory false (λ g. refl) (slice_get m.globals id.0)
  memory_agrees i (kinds.Tag id) = tag_passes is_memory false (λ ty. refl) (slice_get m.tags id.0)

  -- for a global
  global_agrees : (i : Import) (k : ImportKind) → passes is_global (import_asked m n k) ≡ is_some (brought_entry m.globals (global_brought (record i { kind = k })))
  unfolding import_asked
  global_agrees i (kinds.Func id) = func_passes is_global false (λ ty. refl) (slice_get m.funcs id.0)
  global_agrees i (kinds.Table id) = table_passes is_global false (λ t. refl) (slice_get m.tables id.0)
  global_agrees i (kinds.Memory id) = memory_passes is_global false (λ x. refl) (slice_get m.memories id.0)
  global_agrees i (kinds.Global id) = global_passes is_global true (λ g. refl) (slice_get m.globals id.0)
  global_agrees i (kinds.Tag id) = tag_passes is_global false (λ ty. refl) (slice_get m.tags id.0)

  -- for a tag
  tag_agrees : (i : Import) (k : ImportKind) → passes is_tag (import_asked m n k) ≡ is_some (brought_entry m.tags (tag_brought (record i { kind = k })))
  unfolding import_asked
  tag_agrees i (kinds.Func id) = func_passes is_tag false (λ ty. refl) (slice_get m.funcs id.0)
  tag_agrees i (kinds.Table id) = table_passes is_tag false (λ t. refl) (slice_get m.tables id.0)
  tag_agrees i (kinds.Memory id) = memory_passes is_tag false (λ x. refl) (slice_get m.memories id.0)
  tag_agrees i (kinds.Global id) = global_passes is_tag false (λ g. refl) (slice_get m.globals id.0)
  tag_agrees i (kinds.Tag id) = tag_passes is_tag true (λ ty. refl) (slice_get m.tags id.0)

  -- ---- how many ask for a kind

  -- an import that asks for the kind is one more
  one_asked : (kind : ImportType → Bool) (i : Import) (o : Option ImportType) (rest : List FileImport) → count_by (λ (x : FileImport). kind x.ty) (cons_option (import_of_type i o) rest) ≡ cond (passes kind o) 1 0 + count_by (λ (x : FileImport). kind x.ty) rest
  one_asked kind i (Some ty) rest = sum_by-cons (λ (x : FileImport). cond (kind x.ty) 1 0) (record { «module» = i.«module»; name = i.name; ty = ty }) rest
  one_asked kind i None rest = omega arith

  -- an entry that is brought in is one more
  one_brought : {A : Type 0} (xs : List (Option A)) (k : Option ℕ) (ks : List ℕ) → length (filter_map (entry_at xs) (cons_option k ks)) ≡ cond (is_some (brought_entry xs k)) 1 0 + length (filter_map (entry_at xs) ks)
  one_brought xs None ks = omega arith
  one_brought xs (Some k) ks = one (entry_at xs k) (filter_map (entry_at xs) ks)
    where
      one : {A : Type 0} (o : Option A) (ys : List A) → length (cons_option o ys) ≡ cond (is_some o) 1 0 + length ys
      one (Some y) ys = omega arith
      one None ys = omega arith

  -- as many imports ask for a kind as bring in an entry that is there
  asked_counted : {A : Type 0} (kind : ImportType → Bool) (brought : Import → Option ℕ) (xs : List (Option A)) → ((i : Import) → passes kind (import_asked m n i.kind) ≡ is_some (brought_entry xs (brought i))) → (is : List Import) → number_of kind (filter_map (file_import m n) is) ≡ length (filter_map (entry_at xs) (filter_map brought is))
  unfolding number_of
  asked_counted kind brought xs agrees [] = refl
  asked_counted kind brought xs agrees (i ∷ is) =
      let rest = filter_map (file_import m n) is in
      one_asked kind i (import_asked m n i.kind) rest
      ∙ ap (λ b. cond b 1 0 + count_by (λ (x : FileImport). kind x.ty) rest) (agrees i)
      ∙ ap (λ c. cond (is_some (brought_entry xs (brought i))) 1 0 + c) (asked_counted kind brought xs agrees is)
      ∙ sym (one_brought xs (brought i) (filter_map brought is))

  -- as many ask for a kind as entries of it are imported
  imported_counted : {A : Type 0} (kind : ImportType → Bool) (brought : Import → Option ℕ) (test : A → Bool) (xs : List (Option A)) → ((i : Import) → passes kind (import_asked m n i.kind) ≡ is_some (brought_entry xs (brought i))) → places test 0 xs ≡ filter_map brought (live m.imports) → number_of kind (filter_map (file_import m n) (live m.imports)) ≡ length (filter test (live xs))
  imported_counted kind brought test xs agrees order =
      asked_counted kind brought xs agrees (live m.imports)
      ∙ ap (λ ks. length (filter_map (entry_at xs) ks)) (sym order)
      ∙ ap length (places_found test xs)

-- ---- entries that are not imported

-- an entry that is not imported is one more
one_own : {A B : Type 0} (o : Option ImportId) (x : A) (g : A → B) (ys : List B) (xs : List A) → ys ≡ map g xs → cons_option (own o (g x)) ys ≡ map g (cond (not (is_some o)) (x ∷ xs) xs)
one_own None x g ys xs h = ap (λ zs. g x ∷ zs) h
one_own (Some i) x g ys xs h = h

-- entries of one's own are those that are not imported
own_listed : {A B : Type 0} (import_of : A → Option ImportId) (g : A → B) (xs : List A) → filter_map (λ x. own (import_of x) (g x)) xs ≡ map g (filter (λ x. not (is_some (import_of x))) xs)
own_listed import_of g [] = refl
own_listed import_of g (x ∷ xs) = one_own (import_of x) x g (filter_map (λ y. own (import_of y) (g y)) xs) (filter (λ y. not (is_some (import_of y))) xs) (own_listed import_of g xs)

-- as many as those are
own_counted : {A B : Type 0} (import_of : A → Option ImportId) (g : A → B) (xs : List A) → length (filter_map (λ x. own (import_of x) (g x)) xs) ≡ length (filter (λ x. not (is_some (import_of x))) xs)
own_counted import_of g xs = ap length (own_listed import_of g xs) ∙ length-map (filter (λ x. not (is_some (import_of x))) xs) g

-- imported ones and the others are all
both_counted : {A : Type 0} (test : A → Bool) (xs : List (Option A)) (imported own : ℕ) → imported ≡ length (filter test (live xs)) → own ≡ length (filter (λ x. not (test x)) (live xs)) → imported + own ≡ length (in_order test xs)
both_counted test xs imported own h k =
    let both = length-append (filter test (live xs)) (filter (λ x. not (test x)) (live xs)) in
    omega (arith, h, k, both)

-- ---- the number of segments

-- the count that is told is the number of segments
or_zero-some_count : (c : ℕ) → or_zero (some_count c) ≡ c
or_zero-some_count c = elim (cases_eq c 0) [
  | inl same ↦ rw (eq-eqb c 0 same) (sym same)
  | inr other ↦ rw (ne_eqb c 0 other) refl
]

-- it is as it is told
pub some_count_told : (c k : ℕ) → k ≡ c → is_told (some_count c) k ≡ true
some_count_told c k same = elim (cases_eq c 0) [
  | inl none ↦ rw (eq-eqb c 0 none) refl
  | inr other ↦ rw (ne_eqb c 0 other) (eq-eqb k c same)
]

-- ---- all counts

-- The file has as many entries of each kind as are there.
pub record AreCounts (m : Contents) (c : Counts) : Type 0 where
  pub types : c.types ≡ length (live m.types)
  pub funcs : c.funcs ≡ length (in_order func_imported m.funcs)
  pub tables : c.tables ≡ length (in_order table_imported m.tables)
  pub memories : c.memories ≡ length (in_order memory_imported m.memories)
  pub globals : c.globals ≡ length (in_order global_imported m.globals)
  pub tags : c.tags ≡ length (in_order tag_imported m.tags)
  pub elems : c.elems ≡ length (live m.elems)
  pub segments : c.segments ≡ length (live m.segments)

-- so it has
pub counts_are : (m : Contents) (n : Numbering) → AreInOrder m → AreCounts m (counts_of (filed_by n m))
unfolding filed_by
counts_are m n order = record {
  types = refl;
  funcs = both_counted func_imported m.funcs _ _ (imported_counted m n is_func func_brought func_imported m.funcs (λ i. func_agrees m n i i.kind) order.funcs) (own_counted (λ (f : Func). f.«import») (λ f. file_type n f.ty) (live m.funcs));
  tables = both_counted table_imported m.tables _ _ (imported_counted m n is_table table_brought table_imported m.tables (λ i. table_agrees m n i i.kind) order.tables) (own_counted (λ (t : Table). t.«import») (λ t. record { elem = t.elem; limits = t.limits }) (live m.tables));
  memories = both_counted memory_imported m.memories _ _ (imported_counted m n is_memory memory_brought memory_imported m.memories (λ i. memory_agrees m n i i.kind) order.memories) (own_counted (λ (x : Memory). x.«import») (λ x. x.limits) (live m.memories));
  globals = both_counted global_imported m.globals _ _ (imported_counted m n is_global global_brought global_imported m.globals (λ i. global_agrees m n i i.kind) order.globals) (own_counted (λ (g : GlobalVar). g.«import») (λ g. record { ty = g.ty; mutable = g.mutable; init = renumbered_ops n g.init }) (live m.globals));
  tags = both_counted tag_imported m.tags _ _ (imported_counted m n is_tag tag_brought tag_imported m.tags (λ i. tag_agrees m n i i.kind) order.tags) (own_counted (λ (t : Tag). t.«import») (λ t. file_type n t.ty) (live m.tags));
  elems = length-map (live m.elems) (file_elem n);
  segments = or_zero-some_count (count_by is_some m.segments) ∙ counted (λ x. x) m.segments;
}

-- ---- the types of functions

-- the types of functions that imports bring in
types_asked : (m : Contents) (n : Numbering) (is : List Import) → imported_func_types (filter_map (file_import m n) is) ≡ map (λ (f : Func). file_type n f.ty) (filter_map (entry_at m.funcs) (filter_map func_brought is))
unfolding imported_func_types import_asked
types_asked m n [] = refl
types_asked m n (i ∷ is) = one i i.kind (filter_map (file_import m n) is) (filter_map func_brought is) (types_asked m n is)
  where
    by_func : (i : Import) (o : Option (Option Func)) (rest : List FileImport) (fs : List Func) → filter_map (λ (x : FileImport). func_type_of x.ty) rest ≡ map (λ (f : Func). file_type n f.ty) fs → filter_map (λ (x : FileImport). func_type_of x.ty) (cons_option (import_of_type i (func_asked n o)) rest) ≡ map (λ (f : Func). file_type n f.ty) (cons_option (entry_of o) fs)
    by_func i (Some (Some f)) rest fs h = ap (λ tys. file_type n f.ty ∷ tys) h
    by_func i (Some None) rest fs h = h
    by_func i None rest fs h = h

    by_table : (i : Import) (o : Option (Option Table)) (rest : List FileImport) → filter_map (λ (x : FileImport). func_type_of x.ty) (cons_option (import_of_type i (table_asked o)) rest) ≡ filter_map (λ (x : FileImport). func_type_of x.ty) rest
    by_table i (Some (Some t)) rest = refl
    by_table i (Some None) rest = refl
    by_table i None rest = refl

    by_memory : (i : Import) (o : Option (Option Memory)) (rest : List FileImport) → filter_map (λ (x : FileImport). func_type_of x.ty) (cons_option (import_of_type i (memory_asked o)) rest) ≡ filter_map (λ (x : FileImport). func_type_of x.ty) rest
    by_memory i (Some (Some x)) rest = refl
    by_memory i (Some None) rest = refl
    by_memory i None rest = refl

    by_global : (i : Import) (o : Option (Option GlobalVar)) (rest : List FileImport) → filter_map (λ (x : FileImport). func_type_of x.ty) (cons_option (import_of_type i (global_asked o)) rest) ≡ filter_map (λ (x : FileImport). func_type_of x.ty) rest
    by_global i (Some (Some g)) rest = refl
    by_global i (Some None) rest = refl
    by_global i None rest = refl

    by_tag : (i : Import) (o : Option (Option Tag)) (rest : List FileImport) → filter_map (λ (x : FileImport). func_type_of x.ty) (cons_option (import_of_type i (tag_asked n o)) rest) ≡ filter_map (λ (x : FileImport). func_type_of x.ty) rest
    by_tag i (Some (Some t)) rest = refl
    by_tag i (Some None) rest = refl
    by_tag i None rest = refl

    one : (i : Import) (k : ImportKind) (rest : List FileImport) (ks : List ℕ) → filter_map (λ (x : FileImport). func_type_of x.ty) rest ≡ map (λ (f : Func). file_type n f.ty) (filter_map (entry_at m.funcs) ks) → filter_map (λ (x : FileImport). func_type_of x.ty) (cons_option (import_of_type i (import_asked m n k)) rest) ≡ map (λ (f : Func). file_type n f.ty) (filter_map (entry_at m.funcs) (cons_option (func_brought (record i { kind = k })) ks))
    one i (kinds.Func id) rest ks h = by_func i (slice_get m.funcs id.0) rest (filter_map (entry_at m.funcs) ks) h
    one i (kinds.Table id) rest ks h = by_table i (slice_get m.tables id.0) rest ∙ h
    one i (kinds.Memory id) rest ks h = by_memory i (slice_get m.memories id.0) rest ∙ h
    one i (kinds.Global id) rest ks h = by_global i (slice_get m.globals id.0) rest ∙ h
    one i (kinds.Tag id) rest ks h = by_tag i (slice_get m.tags id.0) rest ∙ h

-- the types of functions are those of the functions in the order in which they are written
pub func_types_are : (m : Contents) (n : Numbering) → AreInOrder m → func_types (filed_by n m) ≡ map (λ (f : Func). file_type n f.ty) (in_order func_imported m.funcs)
unfolding func_types filed_by
func_types_are m n order =
    let make : Func → TypeId = λ f. file_type n f.ty in
    let own_ones : List TypeId = filter_map (own_type n) (live m.funcs) in
    ap (λ tys. tys ++ own_ones) (types_asked m n (live m.imports) ∙ ap (λ ks. map make (filter_map (entry_at m.funcs) ks)) (sym order.funcs) ∙ ap (map make) (places_found func_imported m.funcs))
    ∙ ap (λ tys. map make (filter func_imported (live m.funcs)) ++ tys) (own_listed (λ (f : Func). f.«import») make (live m.funcs))
    ∙ sym (map-append make (filter func_imported (live m.funcs)) (filter (λ f. not (func_imported f)) (live m.funcs)))
