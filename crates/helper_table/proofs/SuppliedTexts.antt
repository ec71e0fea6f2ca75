-- Each helper that is supplied stands well: it declares each name once, is not exported, uses its own names, `wasm`, and those of helpers that
-- are supplied, takes exports that the parts give, and belongs where these are there.
use Rattle.std.proofs.Common.{◌≡◌, ℕ, ◌<◌, ◌^◌, List, [], ◌∷◌, Bool, true, false, inl, inr, refl, sym, ap, subst, arith, ◌⊎◌}
use Rattle.std.specs.Prelude.{Option, Some, None, codes, slice_get, slice_index_or}
use Rattle.values.specs.Lists.{IsIn, AreDistinct}
use Rattle.glue_words.specs.declared.item.Item.{Item}
use Rattle.glue_words.specs.Facts.{facts}
use Rattle.glue_words.specs.Linking.{AreAmong}
use Rattle.glue_words.specs.Names.{used_in, hosted_in, wasm_in}
use Rattle.glue_words.proofs.Among.{among_trans, among_in}
use Rattle.glue_words.proofs.Belonging.{Context}
use Rattle.glue_words.proofs.Fitting.{Fits, the_module, belongs_by_facts}
use Rattle.glue_helpers.specs.declared.closures.ClosureHelper.{ClosureHelper}
use Rattle.glue_helpers.specs.declared.closures.ClosureHelper.TheVariants as closure
use Rattle.glue_helpers.specs.declared.element.ElementKind.{ElementKind}
use Rattle.glue_helpers.specs.declared.element.ElementKind.TheVariants as element
use Rattle.glue_helpers.specs.Arrays.{get_array, pass_array, get_values_by_table, get_values_by_heap, pass_values_by_table, pass_values_by_heap}
use Rattle.glue_helpers.specs.Closures.{closure_item, closure_names}
use Rattle.glue_helpers.specs.Errors.{handle_error_by_table, handle_error_by_heap}
use Rattle.glue_helpers.specs.Numbered.{element_class, unsigned_element, array_view_name, data_view_name, add_name, get_name, take_name}
use Rattle.glue_helpers.specs.References.{add_to_table, get_from_table, take_from_table, reference_names}
use Rattle.glue_helpers.specs.Strings.{get_string, pass_string, pass_string_names, pass_string_hosts}
use Rattle.glue_helpers.specs.TextNames.{TextNames}
use Rattle.glue_helpers.specs.Views.{array_view, data_view, array_view_names, data_view_names}
use Rattle.glue_helpers.proofs.ArrayTexts.{get_array_holds, get_array_fits, pass_array_holds, pass_array_fits, get_by_table_holds, get_by_table_fits, get_by_heap_holds, get_by_heap_fits, pass_by_table_holds, pass_by_table_fits, pass_by_heap_holds, pass_by_heap_fits}
use Rattle.glue_helpers.proofs.ClosureTexts.{closure_holds, closure_fits}
use Rattle.glue_helpers.proofs.ErrorTexts.{by_table_holds, by_table_fits, by_heap_holds, by_heap_fits}
use Rattle.glue_helpers.proofs.ReferenceTexts.{add_to_table_holds, add_to_table_fits, get_from_table_holds, get_from_table_fits, take_from_table_holds, take_from_table_fits}
use Rattle.glue_helpers.proofs.StringTexts.{get_string_holds, get_string_fits, pass_string_holds, pass_string_fits}
use Rattle.glue_helpers.proofs.Telling.{Holds}
use Rattle.glue_helpers.proofs.ViewTexts.{array_view_holds, array_view_fits, data_view_holds, data_view_fits}
use Rattle.helper_table.specs.declared.parts.TableExport.{TableExport}
use Rattle.helper_table.specs.declared.parts.HelperParts.{HelperParts}
use Rattle.helper_table.specs.declared.kinds.Single.{Single}
use Rattle.helper_table.specs.declared.kinds.Single.TheVariants as single
use Rattle.helper_table.specs.declared.kinds.MemoryHelper.{MemoryHelper}
use Rattle.helper_table.specs.declared.kinds.MemoryHelper.TheVariants as memory
use Rattle.helper_table.specs.declared.kinds.TableHelper.{TableHelper}
use Rattle.helper_table.specs.declared.kinds.TableHelper.TheVariants as table
use Rattle.helper_table.specs.declared.kinds.Family.{Family}
use Rattle.helper_table.specs.declared.kinds.Family.TheVariants as family
use Rattle.helper_table.specs.Made.{single_item, family_item, memory_item, table_item, formed, closure_made, error_handled, values_got, values_passed, added, taken}
use Rattle.helper_table.specs.Laws.{any_in}
use Rattle.helper_table.proofs.HeldItems.{StandsWell, IsKnown, helper_hosts, among_test, none_some, some_is}
use Rattle.helper_table.proofs.Held.{base_names, heap_uses_all, heap_stands, plain_stands, stands_with}
use Rattle.helper_table.proofs.Supplies.{is_adding, is_supplied, IsProvided, single_ready, family_ready, given_exports, memory_given, table_given, store_given, destroy_given, alloc_given, drop_given, slice_given, of_memory_given, of_table_given, base_provided, view_provided, data_provided, add_provided, closures_provided}

-- an item stands well among helpers that are supplied
abbrev pub IsSuppliedWell : HelperParts → Item → Type 0
IsSuppliedWell parts item = StandsWell parts (is_supplied parts) the_module (given_exports parts) item

-- the classes of arrays are the host's names
class_hosted : (e : ElementKind) → IsIn (element_class e) helper_hosts
class_hosted element.I8 = any_in _ helper_hosts refl
class_hosted element.U8 = any_in _ helper_hosts refl
class_hosted element.I16 = any_in _ helper_hosts refl
class_hosted element.U16 = any_in _ helper_hosts refl
class_hosted element.I32 = any_in _ helper_hosts refl
class_hosted element.U32 = any_in _ helper_hosts refl
class_hosted element.I64 = any_in _ helper_hosts refl
class_hosted element.U64 = any_in _ helper_hosts refl

-- and so are those that strings need
string_hosted : (tested : Bool) → AreAmong (pass_string_hosts tested) helper_hosts
string_hosted true = among_test (pass_string_hosts true) helper_hosts refl
string_hosted false = among_test (pass_string_hosts false) helper_hosts refl

-- a view and the variable that keeps it have two names: one begins with `g`, the other with `c`
two_names : (xs ys : List ℕ) → AreDistinct ((99 ∷ xs) ∷ (103 ∷ ys) ∷ [])
two_names xs ys = (λ at. elim at [ inl same ↦ other same | inr none ↦ none ], ((λ none. none), tt))
  where
    other : 99 ∷ xs ≡ 103 ∷ ys → ⊥
    other e = let h : 99 ≡ 103 = ap (λ (zs : List ℕ). slice_index_or zs 0 0) e in absurd (omega (arith, h))

module _ (parts : HelperParts) where
  -- a name is `wasm`, or provided
  abbrev IsGiven : List ℕ → Type 0
  IsGiven name = IsIn name the_module ⊎ IsProvided parts name

  -- each name is one of these, or given
  abbrev AreKnown : (own names : List (List ℕ)) → Type 0
  AreKnown own [] = Unit {0}
  AreKnown own (name ∷ names) = (IsIn name own ⊎ IsGiven name) × AreKnown own names

  -- what holds of all of them holds of each
  known_in : (own names : List (List ℕ)) → AreKnown own names → (name : List ℕ) → IsIn name names
      → IsKnown parts (is_supplied parts) the_module own name
  known_in own [] h name at = absurd at
  known_in own (n ∷ names) h name (inl same) = by n same h.0
    where
      by : (x : List ℕ) → name ≡ x → IsIn x own ⊎ IsGiven x → IsKnown parts (is_supplied parts) the_module own name
      by x e (inl at) = inl (inl (subst (λ (z : List ℕ). IsIn z own) (sym e) at))
      by x e (inr (inl at)) = inl (inr (subst (λ (z : List ℕ). IsIn z the_module) (sym e) at))
      by x e (inr (inr found)) = inr (subst (IsProvided parts) (sym e) found)
  known_in own (n ∷ names) h name (inr at) = known_in own names h.1 name at

  -- `wasm` is given
  wasm_given : IsGiven (codes "wasm")
  wasm_given = inl (inl refl)

  -- so are the names of helpers that take nothing of the module
  base_given : (name : List ℕ) → IsIn name base_names → IsGiven name
  base_given name at = inr (base_provided parts name at)

  -- an item stands well by the facts of its text
  text_stands : (item : Item) (t : TextNames) → Holds item.words t → AreDistinct t.binds → AreAmong t.hosts helper_hosts
      → AreAmong t.takes (given_exports parts) → AreKnown t.binds t.uses
      → ((c : Context) → AreAmong t.uses c.declared → AreAmong t.hosts c.hosts → AreAmong t.takes c.exports → Fits c (facts item.words))
      → IsSuppliedWell parts item
  text_stands item t holds distinct hosted taken known fits = record {
    once_each = subst AreDistinct (sym holds.binds) distinct;
    inner = holds.unexported;
    uses = λ name used. subst (λ (own : List (List ℕ)). IsKnown parts (is_supplied parts) the_module own name) (sym holds.binds)
        (known_in t.binds t.uses known name (among_in name (used_in item.words) t.uses holds.uses.0 used));
    hosts = among_trans (hosted_in item.words) t.hosts helper_hosts holds.hosts.0 hosted;
    takes = among_trans (wasm_in item.words) t.takes (given_exports parts) holds.takes.0 taken;
    belongs = λ c uses hosts exports. belongs_by_facts c item.words (fits c
        (among_trans t.uses (used_in item.words) c.declared holds.uses.1 uses)
        (among_trans t.hosts helper_hosts c.hosts hosted hosts)
        (among_trans t.takes (given_exports parts) c.exports taken exports));
  }

  -- where it binds one name, and no name of the host
  one_stands : (item : Item) (name : List ℕ) (uses takes : List (List ℕ))
      → Holds item.words (record { binds = name ∷ []; uses = uses; hosts = []; takes = takes }) → AreAmong takes (given_exports parts)
      → AreKnown (name ∷ []) uses → ((c : Context) → AreAmong uses c.declared → AreAmong takes c.exports → Fits c (facts item.words))
      → IsSuppliedWell parts item
  one_stands item name uses takes holds taken known fits =
      text_stands item (record { binds = name ∷ []; uses = uses; hosts = []; takes = takes }) holds ((λ none. none), tt) tt taken known
      (λ c u h k. fits c u k)

  -- ---- helpers without a place

  -- a helper for closures stands well, where the function for them is given
  closure_stands : (h : ClosureHelper) (destroy : List ℕ) → parts.destroy_closure ≡ Some destroy → IsSuppliedWell parts (closure_item h destroy)
  closure_stands closure.ClosureFinalization destroy given =
      text_stands (closure_item closure.ClosureFinalization destroy) (closure_names closure.ClosureFinalization destroy)
      (closure_holds destroy closure.ClosureFinalization) ((λ none. none), tt)
      (among_test (codes "FinalizationRegistry" ∷ []) helper_hosts refl) (destroy_given parts destroy given, tt)
      (inr wasm_given, tt) (closure_fits destroy closure.ClosureFinalization)
  closure_stands closure.MakeClosure destroy given =
      text_stands (closure_item closure.MakeClosure destroy) (closure_names closure.MakeClosure destroy)
      (closure_holds destroy closure.MakeClosure) ((λ none. none), tt) tt (destroy_given parts destroy given, tt)
      (inr wasm_given, (inr (inr (closures_provided parts destroy given)), tt)) (closure_fits destroy closure.MakeClosure)
  closure_stands closure.MakeMutClosure destroy given =
      text_stands (closure_item closure.MakeMutClosure destroy) (closure_names closure.MakeMutClosure destroy)
      (closure_holds destroy closure.MakeMutClosure) ((λ none. none), tt) tt (destroy_given parts destroy given, tt)
      (inr wasm_given, (inr (inr (closures_provided parts destroy given)), tt)) (closure_fits destroy closure.MakeMutClosure)

  -- and so where it is there
  closures_stand : (h : ClosureHelper) (o : Option (List ℕ)) (item : Item) → parts.destroy_closure ≡ o → closure_made h o ≡ Some item → IsSuppliedWell parts item
  closures_stand h None item given e = absurd (none_some item e)
  closures_stand h (Some destroy) item given e = subst (IsSuppliedWell parts) (some_is _ _ e) (closure_stands h destroy given)

  -- the helper that hands on what was thrown stands well, where it is there with what it uses
  errors_stand : (through : Bool) (t : Option TableExport) (o : Option (List ℕ)) (item : Item) → parts.externref ≡ through → parts.table ≡ t
      → parts.exn_store ≡ o → error_handled through t o ≡ Some item → is_adding parts ≡ true → IsSuppliedWell parts item
  errors_stand through t None item a b c e ready = absurd (none_some item e)
  errors_stand true None (Some store) item a b c e ready = absurd (none_some item e)
  errors_stand true (Some t) (Some store) item a b c e ready =
      subst (IsSuppliedWell parts) (some_is _ _ e)
      (one_stands (handle_error_by_table t.place store) (codes "handleError") (add_name t.place ∷ codes "wasm" ∷ []) (store ∷ [])
      (by_table_holds store t.place) (store_given parts store c, tt) (inr (inr (add_provided parts t b a ready)), (inr wasm_given, tt))
      (by_table_fits store t.place))
  errors_stand false t (Some store) item a b c e ready =
      subst (IsSuppliedWell parts) (some_is _ _ e)
      (one_stands (handle_error_by_heap store) (codes "handleError") (codes "wasm" ∷ codes "addHeapObject" ∷ []) (store ∷ [])
      (by_heap_holds store) (store_given parts store c, tt) (inr wasm_given, (inr (base_given _ (any_in _ base_names refl)), tt)) (by_heap_fits store))

  -- the object table is there
  heap_provided : (name : List ℕ) → IsIn name heap_uses_all → IsProvided parts name
  heap_provided name at = base_provided parts name (among_in name heap_uses_all base_names (among_test heap_uses_all base_names refl) at)

  -- each helper without a place stands well
  pub single_stands : (x : Single) (item : Item) → single_item parts x ≡ Some item → single_ready parts x ≡ true → IsSuppliedWell parts item
  single_stands (single.Heap k) item e ready =
      subst (IsSuppliedWell parts) (some_is _ _ e) (stands_with parts (is_supplied parts) the_module (given_exports parts) _ heap_provided (heap_stands k parts.debug))
  single_stands (single.Plain h) item e ready =
      subst (IsSuppliedWell parts) (some_is _ _ e)
      (stands_with parts (is_supplied parts) the_module (given_exports parts) _ heap_provided (plain_stands (formed parts h)))
  single_stands (single.Closure h) item e ready = closures_stand h parts.destroy_closure item refl e
  single_stands single.HandleError item e ready = errors_stand parts.externref parts.table parts.exn_store item refl refl refl e ready

  -- ---- helpers that go by a memory

  module _ (n : ℕ) (export : List ℕ) (small : n < 2 ^ 32) (given : slice_get parts.memories n ≡ Some (Some export)) where
    -- the views of the memory are given
    view_given : (e : ElementKind) → IsGiven (array_view_name e n)
    view_given e = inr (view_provided parts n export small given e)

    -- and its view of numbers
    data_given : IsGiven (data_view_name n)
    data_given = inr (data_provided parts n export small given)

    -- each view stands well
    view_stands : (e : ElementKind) → IsSuppliedWell parts (array_view e n export)
    view_stands e =
        text_stands (array_view e n export) (array_view_names e n export) (array_view_holds n export e) (two_names _ _) (class_hosted e, tt)
        (memory_given parts n export given, tt) (inr wasm_given, (inl (inl refl), tt)) (array_view_fits n export e)

    -- so does the view of numbers
    data_stands : IsSuppliedWell parts (data_view n export)
    data_stands =
        text_stands (data_view n export) (data_view_names n export) (data_view_holds n export) (two_names _ _)
        (among_test (codes "undefined" ∷ codes "DataView" ∷ []) helper_hosts refl) (memory_given parts n export given, tt)
        (inr wasm_given, (inl (inl refl), tt)) (data_view_fits n export)

    -- what passes strings
    string_stands : (tested : Bool) → IsSuppliedWell parts (pass_string n tested)
    string_stands tested =
        text_stands (pass_string n tested) (pass_string_names n tested) (pass_string_holds n tested) ((λ none. none), tt) (string_hosted tested) tt
        (inr (view_given element.U8), (inr (base_given _ (any_in _ base_names refl)), (inr (base_given _ (any_in _ base_names refl)), tt)))
        (λ c u h k. pass_string_fits n tested c u h)

    -- what gives arrays of values
    got_stands : (through : Bool) (t : Option TableExport) (o : Option (List ℕ)) (item : Item) → parts.table ≡ t → parts.externref_drop_slice ≡ o
        → values_got through t o n ≡ Some item → IsSuppliedWell parts item
    got_stands false t o item b c e =
        subst (IsSuppliedWell parts) (some_is _ _ e)
        (one_stands (get_values_by_heap n) _ _ [] (get_by_heap_holds n) tt (inr data_given, (inr (base_given _ (any_in _ base_names refl)), tt))
        (λ c u k. get_by_heap_fits n c u))
    got_stands true None o item b c e = absurd (none_some item e)
    got_stands true (Some t) None item b c e = absurd (none_some item e)
    got_stands true (Some t) (Some free) item b c e =
        subst (IsSuppliedWell parts) (some_is _ _ e)
        (one_stands (get_values_by_table n t.name free) _ _ (t.name ∷ free ∷ []) (get_by_table_holds n t.name free)
        (table_given parts t b t.name (inl refl), (slice_given parts t free b c, tt)) (inr data_given, (inr wasm_given, tt))
        (get_by_table_fits n t.name free))

    -- what passes them
    passed_stands : (through : Bool) (t : Option TableExport) (item : Item) → parts.externref ≡ through → parts.table ≡ t
        → values_passed through t n ≡ Some item → is_adding parts ≡ true → IsSuppliedWell parts item
    passed_stands false t item a b e ready =
        subst (IsSuppliedWell parts) (some_is _ _ e)
        (one_stands (pass_values_by_heap n) _ _ [] (pass_by_heap_holds n) tt
        (inr data_given, (inr (base_given _ (any_in _ base_names refl)), (inr (base_given _ (any_in _ base_names refl)), tt)))
        (λ c u k. pass_by_heap_fits n c u))
    passed_stands true None item a b e ready = absurd (none_some item e)
    passed_stands true (Some t) item a b e ready =
        subst (IsSuppliedWell parts) (some_is _ _ e)
        (one_stands (pass_values_by_table n t.place) _ _ [] (pass_by_table_holds n t.place) tt
        (inr (inr (add_provided parts t b a ready)), (inr data_given, (inr (base_given _ (any_in _ base_names refl)), tt)))
        (λ c u k. pass_by_table_fits n t.place c u))

    -- and each helper that goes by the memory
    memory_stands : (m : MemoryHelper) (item : Item) → memory_item parts m n export ≡ Some item → family_ready parts (family.Memory m) ≡ true
        → IsSuppliedWell parts item
    memory_stands (memory.ArrayView e) item q ready = subst (IsSuppliedWell parts) (some_is _ _ q) (view_stands e)
    memory_stands memory.DataView item q ready = subst (IsSuppliedWell parts) (some_is _ _ q) data_stands
    memory_stands (memory.GetArray e) item q ready =
        subst (IsSuppliedWell parts) (some_is _ _ q)
        (one_stands (get_array e n) _ _ [] (get_array_holds e n) tt (inr (view_given e), tt) (λ c u k. get_array_fits e n c u))
    memory_stands (memory.PassArray w) item q ready =
        subst (IsSuppliedWell parts) (some_is _ _ q)
        (one_stands (pass_array w n) _ _ [] (pass_array_holds w n) tt
        (inr (view_given (unsigned_element w)), (inr (base_given _ (any_in _ base_names refl)), tt)) (λ c u k. pass_array_fits w n c u))
    memory_stands memory.GetString item q ready =
        subst (IsSuppliedWell parts) (some_is _ _ q)
        (one_stands (get_string n) _ _ [] (get_string_holds n) tt (inr (base_given _ (any_in _ base_names refl)), (inr (view_given element.U8), tt))
        (λ c u k. get_string_fits n c u))
    memory_stands memory.PassString item q ready = subst (IsSuppliedWell parts) (some_is _ _ q) (string_stands parts.debug)
    memory_stands memory.GetValues item q ready = got_stands parts.externref parts.table parts.externref_drop_slice item refl refl q
    memory_stands memory.PassValues item q ready = passed_stands parts.externref parts.table item refl refl q ready

  -- ---- helpers that go by the table of references

  module _ (t : TableExport) (given : parts.table ≡ Some t) (n : ℕ) where
    -- a helper that uses `wasm` alone stands well
    by_wasm : (item : Item) (name : List ℕ) (takes : List (List ℕ)) → Holds item.words (reference_names name takes) → AreAmong takes (given_exports parts)
        → ((c : Context) → IsIn (codes "wasm") c.declared → AreAmong takes c.exports → Fits c (facts item.words)) → IsSuppliedWell parts item
    by_wasm item name takes holds taken fits =
        one_stands item name (codes "wasm" ∷ []) takes holds taken (inr wasm_given, tt) (λ c u k. fits c u.0 k)

    -- the export of the table is given
    here : IsIn t.name (given_exports parts)
    here = table_given parts t given t.name (inl refl)

    -- what adds to the table stands well
    added_stands : (o : Option (List ℕ)) (item : Item) → parts.externref_alloc ≡ o → added n t.name o ≡ Some item → IsSuppliedWell parts item
    added_stands None item c e = absurd (none_some item e)
    added_stands (Some allocate) item c e =
        subst (IsSuppliedWell parts) (some_is _ _ e)
        (by_wasm (add_to_table n t.name allocate) (add_name n) (allocate ∷ t.name ∷ []) (add_to_table_holds n t.name allocate)
        (alloc_given parts t allocate given c, (here, tt)) (add_to_table_fits n t.name allocate))

    -- what takes out of it
    taken_stands : (o : Option (List ℕ)) (item : Item) → parts.externref_drop ≡ o → taken n t.name o ≡ Some item → IsSuppliedWell parts item
    taken_stands None item c e = absurd (none_some item e)
    taken_stands (Some free) item c e =
        subst (IsSuppliedWell parts) (some_is _ _ e)
        (by_wasm (take_from_table n t.name free) (take_name n) (t.name ∷ free ∷ []) (take_from_table_holds n t.name free)
        (here, (drop_given parts t free given c, tt)) (take_from_table_fits n t.name free))

    -- and each helper that goes by the table
    table_stands : (k : TableHelper) (item : Item) → table_item parts k n t.name ≡ Some item → IsSuppliedWell parts item
    table_stands table.Add item q = added_stands parts.externref_alloc item refl q
    table_stands table.Get item q =
        subst (IsSuppliedWell parts) (some_is _ _ q)
        (by_wasm (get_from_table n t.name) (get_name n) (t.name ∷ []) (get_from_table_holds n t.name) (here, tt) (get_from_table_fits n t.name))
    table_stands table.Take item q = taken_stands parts.externref_drop item refl q

  -- each helper with a place stands well
  pub family_stands : (f : Family) (n : ℕ) (item : Item) → n < 2 ^ 32 → family_item parts f n ≡ Some item → family_ready parts f ≡ true
      → IsSuppliedWell parts item
  family_stands (family.Memory m) n item small e ready =
      let g = of_memory_given (λ export. memory_item parts m n export) (slice_get parts.memories n) item e in
      memory_stands n g.0 small g.1.0 m item g.1.1 ready
  family_stands (family.Table k) n item small e ready =
      let g = of_table_given (λ export. table_item parts k n export) n parts.table item e in
      table_stands g.0 g.1.0 n k item g.1.2
