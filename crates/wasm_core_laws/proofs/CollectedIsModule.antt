-- What is left of a module when it is collected is a module.
use Rattle.std.proofs.Common.{◌≡◌, ℕ, zero, suc, ◌+◌, Bool, true, false, cond, List, [], ◌∷◌, ◌++◌, map, length, Option, Some, None, refl, sym, ap, subst, ◌∙◌, arith, inl, inr, zero-add}
use Rattle.std.specs.Prelude.{is_some}
use Rattle.std.specs.List.{filter, filter_map, cons_option, flat_map}
use Rattle.std.proofs.lemmas.Bool.{cases_Bool}
use Rattle.std.proofs.lemmas.List.Elements.{filter-append}
use Rattle.std.proofs.lemmas.Option.{none-some, cond_some}
use Rattle.values.specs.Lists.{IsIn}
use Rattle.values.proofs.Members.{in_left, in_right, in_either}
use Rattle.wasm_types.specs.declared.ids.FuncId.{FuncId}
use Rattle.wasm_code.specs.declared.body.Body.{Body}
use Rattle.wasm_ops.specs.declared.ops.Op.{Op}
use Rattle.wasm_file.specs.declared.entries.Export.{Export}
use Rattle.wasm_file.specs.declared.entries.ExportItem.{ExportItem}
use Rattle.wasm_file_laws.specs.FileFits.{FitsFuncType}
use Rattle.wasm_reach.specs.declared.things.Thing.{Thing}
use Rattle.wasm_reach.specs.declared.things.Thing.TheVariants as things
use Rattle.wasm_reach.proofs.Reached.{all_in}
use Rattle.wasm_collect.specs.Collected.{collected}
use Rattle.wasm_core.specs.Contents.{Contents}
use Rattle.wasm_emission.specs.Emission.{live}
use Rattle.wasm_core.specs.Remainder.{import_thing, kept_places, kept_import, remainder}
use Rattle.wasm_collect.specs.Reach.{entry_at, stands, passes, places, op_names, ops_names, body_op_names, body_names, func_names, tag_names, global_names, elem_names, segment_names, names, refs, taken_func, taken_declarer, item_thing, export_things, start_things, table_segments, memory_segments, is_imported_table, is_imported_memory, root_names, IsReached}
use Rattle.wasm_core.specs.declared.types.Func.{Func}
use Rattle.wasm_core.specs.declared.types.GlobalVar.{GlobalVar}
use Rattle.wasm_core.specs.declared.types.Import.{Import}
use Rattle.wasm_core.specs.declared.types.ImportKind.{ImportKind}
use Rattle.wasm_core.specs.declared.types.ImportKind.TheVariants as kinds
use Rattle.wasm_core.specs.declared.types.Memory.{Memory}
use Rattle.wasm_core.specs.declared.types.Table.{Table}
use Rattle.wasm_core.specs.declared.types.Tag.{Tag}
use Rattle.wasm_collect.proofs.Collected.{collected_is}
use Rattle.wasm_core_laws.specs.ModuleFits.{id_counts, Stands, AllThere, type_of_func, FitsFunc, FitsTableEntry, FitsMemoryEntry, FitsGlobalEntry, FitsTagEntry, FitsImportEntry, FitsExportEntry, FitsElemEntry, FitsSegmentEntry, func_brought, table_brought, memory_brought, global_brought, tag_brought, func_imported, table_imported, memory_imported, global_imported, tag_imported, IsBroughtBy, IsLinked, IsModule}
use Rattle.wasm_core_laws.proofs.Brought.{front_kept, front_gone}
use Rattle.wasm_core_laws.proofs.Carried.{Keep, counts_kept, Carries, code_names, func_things, func_fits, global_fits, tag_fits, import_fits, export_fits, elem_fits, segment_fits, IsAsTyped, start_fits, linked_at, linked_by}
use Rattle.wasm_core_laws.proofs.Entries.{there_at, standing, there_by}

-- ---- lists of which places are kept

-- what is there where a test lets it stay
either_there : {A : Type 0} (b : Bool) (y : Option A) (x : A) → cond b y None ≡ Some x → (b ≡ true) × (y ≡ Some x)
either_there true y x is = (refl, is)
either_there false y x is = absurd (none-some x is)

module _ {A : Type 0} (kept : ℕ → Bool) where
  -- no place goes
  kept_length : (from : ℕ) (xs : List (Option A)) → length (kept_places kept from xs) ≡ length xs
  unfolding kept_places
  kept_length from [] = refl
  kept_length from (x ∷ xs) = ap suc (kept_length (from + 1) xs)

  -- an entry at a place that is kept is the one that was there, counted from a number
  kept_stays : (from i : ℕ) (xs : List (Option A)) → kept (from + i) ≡ true → entry_at (kept_places kept from xs) i ≡ entry_at xs i
  unfolding kept_places
  kept_stays from i [] h = refl
  kept_stays from zero (x ∷ xs) h =
      let here : from + 0 ≡ from = omega arith in
      ap (λ b. cond b x None) (subst (λ (p : ℕ). kept p ≡ true) here h)
  kept_stays from (suc i) (x ∷ xs) h =
      let next : from + suc i ≡ from + 1 + i = omega arith in
      kept_stays (from + 1) i xs (subst (λ (p : ℕ). kept p ≡ true) next h)

  -- an entry that is left was there, and its place is kept
  stays_kept : (from i : ℕ) (xs : List (Option A)) (x : A) → entry_at (kept_places kept from xs) i ≡ Some x → (kept (from + i) ≡ true) × (entry_at xs i ≡ Some x)
  unfolding kept_places
  stays_kept from i [] x is = absurd (none-some x is)
  stays_kept from zero (y ∷ xs) x is =
      let here : from ≡ from + 0 = omega arith in
      let e = either_there (kept from) y x is in
      (subst (λ (p : ℕ). kept p ≡ true) here e.0, e.1)
  stays_kept from (suc i) (y ∷ xs) x is =
      let next : from + 1 + i ≡ from + suc i = omega arith in
      let e = stays_kept (from + 1) i xs x is in
      (subst (λ (p : ℕ). kept p ≡ true) next e.0, e.1)

  -- the entry at a place that is kept is the one that was there
  kept_at : (xs : List (Option A)) (i : ℕ) → kept i ≡ true → entry_at (kept_places kept 0 xs) i ≡ entry_at xs i
  kept_at xs i h = kept_stays 0 i xs (subst (λ (p : ℕ). kept p ≡ true) (sym (zero-add i)) h)

  -- an entry that is left is one that was there, at a place that is kept
  left_at : (xs : List (Option A)) (i : ℕ) (x : A) → entry_at (kept_places kept 0 xs) i ≡ Some x → (kept i ≡ true) × (entry_at xs i ≡ Some x)
  left_at xs i x is = let e = stays_kept 0 i xs x is in (subst (λ (p : ℕ). kept p ≡ true) (zero-add i) e.0, e.1)

  -- what holds of each entry holds of each that is left
  all_left : (P : A → Type 0) (xs : List (Option A)) → AllThere P xs → AllThere P (kept_places kept 0 xs)
  all_left P xs all = there_by P (kept_places kept 0 xs) (λ i x is. there_at P xs i x all (left_at xs i x is).1)

  -- one place is left where it is kept
  one_left : (test : A → Bool) (from : ℕ) (x : Option A) (b : Bool) → kept from ≡ b → cond (passes test (cond b x None)) (from ∷ []) [] ≡ filter kept (cond (passes test x) (from ∷ []) [])
  one_left test from x true e = elim (cases_Bool (passes test x)) [ inl p ↦ rw (p, e) refl | inr p ↦ rw p refl ]
  one_left test from x false e = elim (cases_Bool (passes test x)) [ inl p ↦ rw (p, e) refl | inr p ↦ rw p refl ]

  -- of the places those are left that are kept
  places_left : (test : A → Bool) (from : ℕ) (xs : List (Option A)) → places test from (kept_places kept from xs) ≡ filter kept (places test from xs)
  unfolding places kept_places
  places_left test from [] = refl
  places_left test from (x ∷ xs) =
      ap (λ ps. ps ++ places test (from + 1) (kept_places kept (from + 1) xs)) (one_left test from x (kept from) refl)
      ∙ ap (λ ps. filter kept (cond (passes test x) (from ∷ []) []) ++ ps) (places_left test (from + 1) xs)
      ∙ sym (filter-append kept (cond (passes test x) (from ∷ []) []) (places test (from + 1) xs))

-- ---- imports

-- an import that is left was there, and its item is kept
import_kept : (kept : Thing → Bool) (x : Option Import) (y : Import) → kept_import kept x ≡ Some y → (x ≡ Some y) × (kept (import_thing y.kind) ≡ true)
import_kept kept None y is = absurd (none-some y is)
import_kept kept (Some x) y is =
    let e = cond_some (kept (import_thing x.kind)) x y is in
    (ap Some e.1, subst (λ (z : Import). kept (import_thing z.kind) ≡ true) e.1 e.0)

-- an import that is left is one that was there, whose item is kept
import_left : (kept : Thing → Bool) (xs : List (Option Import)) (i : ℕ) (y : Import) → entry_at (map (kept_import kept) xs) i ≡ Some y → (entry_at xs i ≡ Some y) × (kept (import_thing y.kind) ≡ true)
import_left kept [] i y is = absurd (none-some y is)
import_left kept (x ∷ xs) zero y is = import_kept kept x y is
import_left kept (x ∷ xs) (suc i) y is = import_left kept xs i y is

-- of what imports bring in that is left which is kept
brought_left : (kept : Thing → Bool) (brought : Import → Option ℕ) (thing : ℕ → Thing) → ((i : Import) (p : ℕ) → brought i ≡ Some p → import_thing i.kind ≡ thing p) → (xs : List (Option Import)) → filter_map brought (live (map (kept_import kept) xs)) ≡ filter (λ p. kept (thing p)) (filter_map brought (live xs))
brought_left kept brought thing told [] = refl
brought_left kept brought thing told (None ∷ xs) = brought_left kept brought thing told xs
brought_left kept brought thing told (Some i ∷ xs) = elim (cases_Bool (kept (import_thing i.kind))) [
  | inl e ↦ rw e (ap (cons_option (brought i)) (brought_left kept brought thing told xs)
      ∙ sym (front_kept (λ p. kept (thing p)) (brought i) (filter_map brought (live xs)) (λ p is. ap kept (sym (told i p is)) ∙ e)))
  | inr e ↦ rw e (brought_left kept brought thing told xs
      ∙ sym (front_gone (λ p. kept (thing p)) (brought i) (filter_map brought (live xs)) (λ p is. ap kept (sym (told i p is)) ∙ e)))
]

-- an import that brings in a function is one of this function, and so on for each kind
func_told : (i : Import) (p : ℕ) → func_brought i ≡ Some p → import_thing i.kind ≡ things.Func p
func_told i p = at_kind i.kind
  where
    at_kind : (kind : ImportKind) → func_brought (record i { kind = kind }) ≡ Some p → import_thing kind ≡ things.Func p
    at_kind (kinds.Func id) is = cc
    at_kind _ is = absurd (none-some p is)

table_told : (i : Import) (p : ℕ) → table_brought i ≡ Some p → import_thing i.kind ≡ things.Table p
table_told i p = at_kind i.kind
  where
    at_kind : (kind : ImportKind) → table_brought (record i { kind = kind }) ≡ Some p → import_thing kind ≡ things.Table p
    at_kind (kinds.Table id) is = cc
    at_kind _ is = absurd (none-some p is)

memory_told : (i : Import) (p : ℕ) → memory_brought i ≡ Some p → import_thing i.kind ≡ things.Memory p
memory_told i p = at_kind i.kind
  where
    at_kind : (kind : ImportKind) → memory_brought (record i { kind = kind }) ≡ Some p → import_thing kind ≡ things.Memory p
    at_kind (kinds.Memory id) is = cc
    at_kind _ is = absurd (none-some p is)

global_told : (i : Import) (p : ℕ) → global_brought i ≡ Some p → import_thing i.kind ≡ things.Global p
global_told i p = at_kind i.kind
  where
    at_kind : (kind : ImportKind) → global_brought (record i { kind = kind }) ≡ Some p → import_thing kind ≡ things.Global p
    at_kind (kinds.Global id) is = cc
    at_kind _ is = absurd (none-some p is)

tag_told : (i : Import) (p : ℕ) → tag_brought i ≡ Some p → import_thing i.kind ≡ things.Tag p
tag_told i p = at_kind i.kind
  where
    at_kind : (kind : ImportKind) → tag_brought (record i { kind = kind }) ≡ Some p → import_thing kind ≡ things.Tag p
    at_kind (kinds.Tag id) is = cc
    at_kind _ is = absurd (none-some p is)

-- ---- members

-- an item that passes is in the filtered list
in_filter : {A : Type 0} (p : A → Bool) (t : A) (xs : List A) → IsIn t xs → p t ≡ true → IsIn t (filter p xs)
in_filter p t [] i h = absurd i
in_filter p t (x ∷ xs) (inl same) h = let e : p x ≡ true = ap p (sym same) ∙ h in rw e (inl same)
in_filter p t (x ∷ xs) (inr i) h = elim (cases_Bool (p x)) [
  | inl e ↦ rw e (inr (in_filter p t xs i h))
  | inr e ↦ rw e (in_filter p t xs i h)
]

-- the item of an export is among those of the exports
export_in : (xs : List (Option Export)) (i : ℕ) (e : Export) → entry_at xs i ≡ Some e → IsIn (item_thing e.item) (flat_map export_things xs)
export_in [] i e is = absurd (none-some e is)
export_in (x ∷ xs) zero e is = in_left (item_thing e.item) (export_things x) (flat_map export_things xs) (subst (λ (o : Option Export). IsIn (item_thing e.item) (export_things o)) (sym is) (inl refl))
export_in (x ∷ xs) (suc i) e is = in_right (item_thing e.item) (export_things x) (flat_map export_things xs) (export_in xs i e is)

-- what operators name is among what a body refers to
op_in : (m : Contents) (t : Thing) (xs : List Op) → IsIn t (ops_names xs) → IsIn t (flat_map (body_op_names m) xs)
op_in m t [] i = i
op_in m t (x ∷ xs) i = elim (in_either t (op_names x) (ops_names xs) i) [
  | inl here ↦ in_left t (body_op_names m x) (flat_map (body_op_names m) xs) (in_left t (op_names x) (taken_declarer m (taken_func x)) here)
  | inr more ↦ in_right t (body_op_names m x) (flat_map (body_op_names m) xs) (op_in m t xs more)
]

-- what a body names is named by the function with this body
code_in : (m : Contents) (t : Thing) (b : Option Body) → IsIn t (code_names b) → IsIn t (body_names m b)
code_in m t (Some b) i = op_in m t b.ops i
code_in m t None i = i

-- what a function names is named by its entry
func_in : (m : Contents) (t : Thing) (f : Func) → IsIn t (func_things f) → IsIn t (func_names m (Some f))
func_in m t f (inl same) = inl same
func_in m t f (inr i) = inr (code_in m t f.body i)

-- ---- what is left

module _ (m : Contents) (roots : List ExportItem) (kept : Thing → Bool) (reached : IsReached m roots kept) where
  -- what stood and is kept stands
  kept_stand : (t : Thing) → Stands m t → kept t ≡ true → Stands (remainder kept m) t
  unfolding remainder
  kept_stand (things.Type i) s h = ap is_some (kept_at (λ i. kept (things.Type i)) m.types i h) ∙ s
  kept_stand (things.Func i) s h = ap is_some (kept_at (λ i. kept (things.Func i)) m.funcs i h) ∙ s
  kept_stand (things.Table i) s h = ap is_some (kept_at (λ i. kept (things.Table i)) m.tables i h) ∙ s
  kept_stand (things.Memory i) s h = ap is_some (kept_at (λ i. kept (things.Memory i)) m.memories i h) ∙ s
  kept_stand (things.Global i) s h = ap is_some (kept_at (λ i. kept (things.Global i)) m.globals i h) ∙ s
  kept_stand (things.Tag i) s h = ap is_some (kept_at (λ i. kept (things.Tag i)) m.tags i h) ∙ s
  kept_stand (things.Elem i) s h = ap is_some (kept_at (λ i. kept (things.Elem i)) m.elems i h) ∙ s
  kept_stand (things.Segment i) s h = ap is_some (kept_at (λ i. kept (things.Segment i)) m.segments i h) ∙ s

  -- what stood and is kept, alone
  keep_one : (t : Thing) → kept t ≡ true → Keep m (remainder kept m) (t ∷ [])
  keep_one t h u (inl same) s = kept_stand u s (ap kept same ∙ h)
  keep_one t h u (inr i) s = absurd i

  -- what a thing names that is kept
  keep_named : (t : Thing) (ts : List Thing) → kept t ≡ true → ((u : Thing) → IsIn u ts → IsIn u (names m t)) → Keep m (remainder kept m) ts
  keep_named t ts h named u i s = kept_stand u s (all_in kept u (refs m t) (reached.closed t h) (in_filter (stands m) u (names m t) (named u i) s))

  -- a root that stands is kept
  root_kept : (t : Thing) → IsIn t (root_names m roots) → Stands m t → kept t ≡ true
  root_kept t i s = all_in kept t (filter (stands m) (root_names m roots)) reached.roots_in (in_filter (stands m) t (root_names m roots) i s)

  -- the roots behind those of exports
  abbrev behind_exports : List Thing
  behind_exports = start_things m.start ++ (map item_thing roots
      ++ (flat_map (table_segments m) (places is_imported_table 0 m.tables)
      ++ flat_map (memory_segments m) (places is_imported_memory 0 m.memories)))

  -- the roots behind the start function
  abbrev behind_start : List Thing
  behind_start = map item_thing roots
      ++ (flat_map (table_segments m) (places is_imported_table 0 m.tables)
      ++ flat_map (memory_segments m) (places is_imported_memory 0 m.memories))

  -- the item of an export is kept
  export_kept : (i : ℕ) (e : Export) → entry_at m.exports i ≡ Some e → Stands m (item_thing e.item) → kept (item_thing e.item) ≡ true
  export_kept i e is s = root_kept (item_thing e.item) (in_left (item_thing e.item) (flat_map export_things m.exports) behind_exports (export_in m.exports i e is)) s

  -- the start function is kept
  start_kept : (func : FuncId) → m.start ≡ Some func → Stands m (things.Func func.0) → kept (things.Func func.0) ≡ true
  start_kept func is s =
      let here : IsIn (things.Func func.0) (start_things m.start) = subst (λ (o : Option FuncId). IsIn (things.Func func.0) (start_things o)) (sym is) (inl refl) in
      root_kept (things.Func func.0) (in_right (things.Func func.0) (flat_map export_things m.exports) behind_exports (in_left (things.Func func.0) (start_things m.start) behind_start here)) s

  -- there are as many places as there were
  left_counts : id_counts (remainder kept m) ≡ id_counts m
  unfolding remainder
  left_counts = rw (
    kept_length (λ i. kept (things.Type i)) 0 m.types,
    kept_length (λ i. kept (things.Func i)) 0 m.funcs,
    kept_length (λ i. kept (things.Table i)) 0 m.tables,
    kept_length (λ i. kept (things.Memory i)) 0 m.memories,
    kept_length (λ i. kept (things.Global i)) 0 m.globals,
    kept_length (λ i. kept (things.Tag i)) 0 m.tags,
    kept_length (λ i. kept (things.Elem i)) 0 m.elems,
    kept_length (λ i. kept (things.Segment i)) 0 m.segments,
  ) refl

  -- what fits the counts fits them still, and types that are kept are as they were
  carried : Carries m (remainder kept m)
  unfolding remainder
  carried = record {
    counts = counts_kept (id_counts m) (id_counts (remainder kept m)) left_counts;
    types = λ i before after.
        let there = standing (entry_at (kept_places (λ i. kept (things.Type i)) 0 m.types) i) after in
        there.1 ∙ sym (left_at (λ i. kept (things.Type i)) m.types i there.0 there.1).1;
  }

  -- a function that is kept has the type that it had
  typed : IsModule m → (i : ℕ) → Stands m (things.Func i) → kept (things.Func i) ≡ true → IsAsTyped m (remainder kept m) i
  unfolding remainder
  typed h i s k =
      let f = standing (entry_at m.funcs i) s in
      let fits = there_at (FitsFunc m) m.funcs i f.0 h.funcs f.1 in
      let stays : Stands (remainder kept m) (things.Type f.0.ty.0) = keep_named (things.Func i) (things.Type f.0.ty.0 ∷ []) k (λ u j. subst (λ (o : Option Func). IsIn u (func_names m o)) (sym f.1) (func_in m u f.0 (in_left u (things.Type f.0.ty.0 ∷ []) (code_names f.0.body) j))) (things.Type f.0.ty.0) (inl refl) fits.ty_stands in
      ap (type_of_func (remainder kept m)) (kept_at (λ i. kept (things.Func i)) m.funcs i k ∙ f.1) ∙ carried.types f.0.ty.0 fits.ty_stands stays ∙ ap (type_of_func m) (sym f.1)

  -- an import whose item is kept is linked as it was
  link_left : (place : ℕ) (kind : ImportKind) → kept (import_thing kind) ≡ true → IsLinked m place kind → IsLinked (remainder kept m) place kind
  unfolding remainder
  link_left place (kinds.Func id) k h = subst (IsBroughtBy (λ (f : Func). f.«import») place) (sym (kept_at (λ i. kept (things.Func i)) m.funcs id.0 k)) h
  link_left place (kinds.Table id) k h = subst (IsBroughtBy (λ (t : Table). t.«import») place) (sym (kept_at (λ i. kept (things.Table i)) m.tables id.0 k)) h
  link_left place (kinds.Memory id) k h = subst (IsBroughtBy (λ (x : Memory). x.«import») place) (sym (kept_at (λ i. kept (things.Memory i)) m.memories id.0 k)) h
  link_left place (kinds.Global id) k h = subst (IsBroughtBy (λ (g : GlobalVar). g.«import») place) (sym (kept_at (λ i. kept (things.Global i)) m.globals id.0 k)) h
  link_left place (kinds.Tag id) k h = subst (IsBroughtBy (λ (t : Tag). t.«import») place) (sym (kept_at (λ i. kept (things.Tag i)) m.tags id.0 k)) h

  -- functions that are left fit, and so do entries of the other kinds
  funcs_left : IsModule m → AllThere (FitsFunc (remainder kept m)) (kept_places (λ i. kept (things.Func i)) 0 m.funcs)
  funcs_left h = there_by (FitsFunc (remainder kept m)) (kept_places (λ i. kept (things.Func i)) 0 m.funcs) (λ i f is.
      let e = left_at (λ i. kept (things.Func i)) m.funcs i f is in
      func_fits m (remainder kept m) carried f (keep_named (things.Func i) (func_things f) e.0 (λ u j. subst (λ (o : Option Func). IsIn u (func_names m o)) (sym e.1) (func_in m u f j))) (there_at (FitsFunc m) m.funcs i f h.funcs e.1))

  globals_left : IsModule m → AllThere (FitsGlobalEntry (remainder kept m)) (kept_places (λ i. kept (things.Global i)) 0 m.globals)
  globals_left h = there_by (FitsGlobalEntry (remainder kept m)) (kept_places (λ i. kept (things.Global i)) 0 m.globals) (λ i g is.
      let e = left_at (λ i. kept (things.Global i)) m.globals i g is in
      global_fits m (remainder kept m) carried g (keep_named (things.Global i) (ops_names g.init) e.0 (λ u j. subst (λ (o : Option GlobalVar). IsIn u (global_names o)) (sym e.1) j)) (there_at (FitsGlobalEntry m) m.globals i g h.globals e.1))

  tags_left : IsModule m → AllThere (FitsTagEntry (remainder kept m)) (kept_places (λ i. kept (things.Tag i)) 0 m.tags)
  tags_left h = there_by (FitsTagEntry (remainder kept m)) (kept_places (λ i. kept (things.Tag i)) 0 m.tags) (λ i t is.
      let e = left_at (λ i. kept (things.Tag i)) m.tags i t is in
      tag_fits m (remainder kept m) carried t (keep_named (things.Tag i) (things.Type t.ty.0 ∷ []) e.0 (λ u j. subst (λ (o : Option Tag). IsIn u (tag_names o)) (sym e.1) j)) (there_at (FitsTagEntry m) m.tags i t h.tags e.1))

  elems_left : IsModule m → AllThere (FitsElemEntry (remainder kept m)) (kept_places (λ i. kept (things.Elem i)) 0 m.elems)
  elems_left h = there_by (FitsElemEntry (remainder kept m)) (kept_places (λ i. kept (things.Elem i)) 0 m.elems) (λ i x is.
      let e = left_at (λ i. kept (things.Elem i)) m.elems i x is in
      elem_fits m (remainder kept m) carried x (keep_named (things.Elem i) (elem_names (Some x)) e.0 (λ u j. subst (λ o. IsIn u (elem_names o)) (sym e.1) j)) (there_at (FitsElemEntry m) m.elems i x h.elems e.1))

  segments_left : IsModule m → AllThere (FitsSegmentEntry (remainder kept m)) (kept_places (λ i. kept (things.Segment i)) 0 m.segments)
  segments_left h = there_by (FitsSegmentEntry (remainder kept m)) (kept_places (λ i. kept (things.Segment i)) 0 m.segments) (λ i x is.
      let e = left_at (λ i. kept (things.Segment i)) m.segments i x is in
      segment_fits m (remainder kept m) carried x (keep_named (things.Segment i) (segment_names (Some x)) e.0 (λ u j. subst (λ o. IsIn u (segment_names o)) (sym e.1) j)) (there_at (FitsSegmentEntry m) m.segments i x h.segments e.1))

  -- what is left of a module is one
  remainder_is_module : IsModule m → IsModule (remainder kept m)
  unfolding remainder
  remainder_is_module h = record {
    types = all_left (λ i. kept (things.Type i)) FitsFuncType m.types h.types;
    funcs = funcs_left h;
    tables = all_left (λ i. kept (things.Table i)) FitsTableEntry m.tables h.tables;
    memories = all_left (λ i. kept (things.Memory i)) FitsMemoryEntry m.memories h.memories;
    globals = globals_left h;
    tags = tags_left h;
    imports = there_by (FitsImportEntry (remainder kept m)) (map (kept_import kept) m.imports) (λ i x is.
        let e = import_left kept m.imports i x is in
        import_fits m (remainder kept m) carried x (keep_one (import_thing x.kind) e.1) (there_at (FitsImportEntry m) m.imports i x h.imports e.0));
    exports = there_by (FitsExportEntry (remainder kept m)) m.exports (λ i x is.
        let fits = there_at (FitsExportEntry m) m.exports i x h.exports is in
        export_fits m (remainder kept m) carried x (keep_one (item_thing x.item) (export_kept i x is fits.item_stands)) fits);
    elems = elems_left h;
    segments = segments_left h;
    start = start_fits m (remainder kept m) m.start (λ func is s. let k = start_kept func is s in (kept_stand (things.Func func.0) s k, typed h func.0 s k)) h.start;
    customs = h.customs;
    name = h.name;
    producers = h.producers;
    order = record {
      linked = linked_by (remainder kept m) (map (kept_import kept) m.imports) 0 (λ j i is.
          let e = import_left kept m.imports j i is in
          link_left (0 + j) i.kind e.1 (linked_at m m.imports 0 j i h.order.linked e.0));
      funcs = places_left (λ i. kept (things.Func i)) func_imported 0 m.funcs ∙ ap (filter (λ i. kept (things.Func i))) h.order.funcs ∙ sym (brought_left kept func_brought things.Func func_told m.imports);
      tables = places_left (λ i. kept (things.Table i)) table_imported 0 m.tables ∙ ap (filter (λ i. kept (things.Table i))) h.order.tables ∙ sym (brought_left kept table_brought things.Table table_told m.imports);
      memories = places_left (λ i. kept (things.Memory i)) memory_imported 0 m.memories ∙ ap (filter (λ i. kept (things.Memory i))) h.order.memories ∙ sym (brought_left kept memory_brought things.Memory memory_told m.imports);
      globals = places_left (λ i. kept (things.Global i)) global_imported 0 m.globals ∙ ap (filter (λ i. kept (things.Global i))) h.order.globals ∙ sym (brought_left kept global_brought things.Global global_told m.imports);
      tags = places_left (λ i. kept (things.Tag i)) tag_imported 0 m.tags ∙ ap (filter (λ i. kept (things.Tag i))) h.order.tags ∙ sym (brought_left kept tag_brought things.Tag tag_told m.imports);
    };
  }

pub collected_is_module : (m : Contents) (roots : List ExportItem) → IsModule m → IsModule (collected roots m)
collected_is_module m roots h =
    let c = collected_is m roots in
    subst IsModule (sym c.is_rest) (remainder_is_module m roots c.kept c.reached h)
