-- Which helpers are supplied: those that are there with each helper that their texts use. What the parts give for them, and who binds their
-- names.
use Rattle.std.proofs.Common.{◌≡◌, ℕ, ◌<◌, ◌≤◌, ◌+◌, ◌^◌, List, [], ◌∷◌, ◌++◌, Bool, true, false, true≢false, inl, inr, refl, sym, ap, ◌∙◌, subst, cond, arith, zero, suc, length}
use Rattle.std.specs.Prelude.{Option, Some, None, nat_eq, nat_lt, codes, ◌&&◌, max, slice_get}
use Rattle.std.specs.List.{flat_map}
use Rattle.std.proofs.lemmas.Bool.{and_parts, and_from, ltb-true, lt-ltb, le-ltb, eqb-true, agree_below_at}
use Rattle.std.proofs.lemmas.Option.{slice_get_within}
use Rattle.values.specs.Lists.{IsIn}
use Rattle.values.proofs.Members.{in_left, in_right}
use Rattle.glue_words.specs.declared.item.Item.{Item}
use Rattle.glue_words.specs.Names.{bound_in}
use Rattle.glue_helpers.specs.declared.closures.ClosureHelper.TheVariants as closure
use Rattle.glue_helpers.specs.declared.element.ElementKind.{ElementKind}
use Rattle.glue_helpers.specs.declared.element.ElementKind.TheVariants as element
use Rattle.glue_helpers.specs.Closures.{closure_item}
use Rattle.glue_helpers.specs.Numbered.{array_view_name, data_view_name, add_name}
use Rattle.glue_helpers.specs.References.{add_to_table}
use Rattle.glue_helpers.specs.Views.{array_view, data_view}
use Rattle.glue_helpers.proofs.ClosureTexts.{closure_holds}
use Rattle.glue_helpers.proofs.ReferenceTexts.{add_to_table_holds}
use Rattle.glue_helpers.proofs.ViewTexts.{array_view_holds, data_view_holds}
use Rattle.helper_table.specs.declared.parts.TableExport.{TableExport}
use Rattle.helper_table.specs.declared.parts.HelperParts.{HelperParts}
use Rattle.helper_table.specs.declared.kinds.Single.{Single}
use Rattle.helper_table.specs.declared.kinds.Single.TheVariants as single
use Rattle.helper_table.specs.declared.kinds.MemoryHelper.{MemoryHelper}
use Rattle.helper_table.specs.declared.kinds.MemoryHelper.TheVariants as memory
use Rattle.helper_table.specs.declared.kinds.TableHelper.TheVariants as table
use Rattle.helper_table.specs.declared.kinds.Family.{Family}
use Rattle.helper_table.specs.declared.kinds.Family.TheVariants as family
use Rattle.helper_table.specs.declared.kinds.TheConstants.{SINGLES, FAMILIES}
use Rattle.helper_table.specs.Made.{single_item, family_item, helper_item, item_words, single_at, family_at, family_of, place_of, is_there, count, table_places, memory_item, table_item, added, of_memory, of_table, closure_made}
use Rattle.helper_table.specs.Numbers.{single_made, family_made}
use Rattle.helper_table.specs.Laws.{finds_law, node_at, node_family, node_place}
use Rattle.helper_table.proofs.Own.{bound_there}
use Rattle.helper_table.proofs.HeldItems.{IsBoundBy, in_flat, none_some, some_is}
use Rattle.helper_table.proofs.Held.{bases, base_names, base_found, none_at}

-- ---- what is supplied

-- a value can be added to the table of references: the table is given, and the function that gives a free place of it
abbrev pub can_add : Option TableExport → Option (List ℕ) → Bool
can_add None allocate = false
can_add (Some t) None = false
can_add (Some t) (Some allocate) = nat_lt t.place (2 ^ 32)

-- it can be, where values go through the table
abbrev pub is_adding : HelperParts → Bool
is_adding parts = cond parts.externref (can_add parts.table parts.externref_alloc) true

-- what the text of a helper uses is there, where the helper is
abbrev pub single_ready : HelperParts → Single → Bool
single_ready parts single.HandleError = is_adding parts
single_ready parts other = true

-- the same of one with a place
abbrev pub family_ready : HelperParts → Family → Bool
family_ready parts (family.Memory memory.PassValues) = is_adding parts
family_ready parts other = true

-- and of one by its number
abbrev pub is_ready : HelperParts → ℕ → Bool
is_ready parts node = cond (nat_lt node SINGLES) (single_ready parts (single_at node)) (family_ready parts (family_at (family_of node)))

-- the helper with this number is there, and each that its text uses
abbrev pub is_supplied : HelperParts → ℕ → Bool
is_supplied parts node = nat_lt node (count parts) && (is_there (helper_item parts node) && is_ready parts node)

-- a name is bound by a helper that is supplied
abbrev pub IsProvided : HelperParts → List ℕ → Type 0
IsProvided parts name = IsBoundBy parts (is_supplied parts) name

-- ---- the exports that are given

-- an export's name, where there is one
abbrev pub option_names : Option (List ℕ) → List (List ℕ)
option_names None = []
option_names (Some name) = name ∷ []

-- the table of references, and the functions for it
abbrev pub table_exports : HelperParts → Option TableExport → List (List ℕ)
table_exports parts None = []
table_exports parts (Some t) =
    t.name ∷ (option_names parts.externref_alloc ++ (option_names parts.externref_drop ++ option_names parts.externref_drop_slice))

-- the exports that the parts give
abbrev pub given_exports : HelperParts → List (List ℕ)
given_exports parts =
    flat_map option_names parts.memories
    ++ (table_exports parts parts.table ++ (option_names parts.exn_store ++ option_names parts.destroy_closure))

-- an entry at a place is one of the list
got_in : {A : Type 0} (xs : List A) (n : ℕ) (x : A) → slice_get xs n ≡ Some x → IsIn x xs
got_in [] n x e = absurd (none_some x (sym (none_at n) ∙ e))
got_in (y ∷ xs) zero x e = inl (some_is x y (sym e))
got_in (y ∷ xs) (suc n) x e = inr (got_in xs n x e)

-- a name that is there is the option's
option_in : (o : Option (List ℕ)) (name : List ℕ) → o ≡ Some name → IsIn name (option_names o)
option_in o name e = subst (λ (p : Option (List ℕ)). IsIn name (option_names p)) (sym e) (inl refl)

module _ (parts : HelperParts) where
  -- exports of memories
  abbrev memory_exports : List (List ℕ)
  memory_exports = flat_map option_names parts.memories

  -- those of functions that need no table
  abbrev function_exports : List (List ℕ)
  function_exports = option_names parts.exn_store ++ option_names parts.destroy_closure

  -- the export of a memory is given
  pub memory_given : (n : ℕ) (export : List ℕ) → slice_get parts.memories n ≡ Some (Some export) → IsIn export (given_exports parts)
  memory_given n export given =
      in_left export memory_exports (table_exports parts parts.table ++ function_exports)
      (in_flat option_names parts.memories (Some export) export (got_in parts.memories n (Some export) given) (inl refl))

  -- so are those of the table
  pub table_given : (t : TableExport) → parts.table ≡ Some t → (name : List ℕ) → IsIn name (table_exports parts (Some t)) → IsIn name (given_exports parts)
  table_given t given name at =
      in_right name memory_exports (table_exports parts parts.table ++ function_exports)
      (in_left name (table_exports parts parts.table) function_exports
      (subst (λ (o : Option TableExport). IsIn name (table_exports parts o)) (sym given) at))

  -- and of such functions
  function_given : (name : List ℕ) → IsIn name function_exports → IsIn name (given_exports parts)
  function_given name at =
      in_right name memory_exports (table_exports parts parts.table ++ function_exports)
      (in_right name (table_exports parts parts.table) function_exports at)

  -- of the one that keeps what was thrown
  pub store_given : (store : List ℕ) → parts.exn_store ≡ Some store → IsIn store (given_exports parts)
  store_given store given =
      function_given store (in_left store (option_names parts.exn_store) (option_names parts.destroy_closure) (option_in parts.exn_store store given))

  -- and of the one that destroys closures
  pub destroy_given : (destroy : List ℕ) → parts.destroy_closure ≡ Some destroy → IsIn destroy (given_exports parts)
  destroy_given destroy given =
      function_given destroy
      (in_right destroy (option_names parts.exn_store) (option_names parts.destroy_closure) (option_in parts.destroy_closure destroy given))

  -- the functions for the table
  pub alloc_given : (t : TableExport) (allocate : List ℕ) → parts.table ≡ Some t → parts.externref_alloc ≡ Some allocate → IsIn allocate (given_exports parts)
  alloc_given t allocate given e =
      table_given t given allocate
      (inr (in_left allocate (option_names parts.externref_alloc) (option_names parts.externref_drop ++ option_names parts.externref_drop_slice)
      (option_in parts.externref_alloc allocate e)))

  -- of the one that frees a place
  pub drop_given : (t : TableExport) (free : List ℕ) → parts.table ≡ Some t → parts.externref_drop ≡ Some free → IsIn free (given_exports parts)
  drop_given t free given e =
      table_given t given free
      (inr (in_right free (option_names parts.externref_alloc) (option_names parts.externref_drop ++ option_names parts.externref_drop_slice)
      (in_left free (option_names parts.externref_drop) (option_names parts.externref_drop_slice) (option_in parts.externref_drop free e))))

  -- and of the one that frees a run of places
  pub slice_given : (t : TableExport) (free : List ℕ) → parts.table ≡ Some t → parts.externref_drop_slice ≡ Some free → IsIn free (given_exports parts)
  slice_given t free given e =
      table_given t given free
      (inr (in_right free (option_names parts.externref_alloc) (option_names parts.externref_drop ++ option_names parts.externref_drop_slice)
      (in_right free (option_names parts.externref_drop) (option_names parts.externref_drop_slice) (option_in parts.externref_drop_slice free e))))

-- ---- where an item is there, so is its memory or table

-- where a helper of a memory is there, the memory is given
pub of_memory_given : (make : List ℕ → Option Item) (o : Option (Option (List ℕ))) (item : Item) → of_memory make o ≡ Some item
    → (export : List ℕ) × ((o ≡ Some (Some export)) × (make export ≡ Some item))
of_memory_given make None item e = absurd (none_some item e)
of_memory_given make (Some None) item e = absurd (none_some item e)
of_memory_given make (Some (Some export)) item e = (export, (refl, e))

-- and where one of the table is, the table is given, and its place is the helper's
pub of_table_given : (make : List ℕ → Option Item) (n : ℕ) (o : Option TableExport) (item : Item) → of_table make n o ≡ Some item
    → (t : TableExport) × ((o ≡ Some t) × (t.place ≡ n) × (make t.name ≡ Some item))
of_table_given make n None item e = absurd (none_some item e)
of_table_given make n (Some t) item e = by (nat_eq t.place n) refl e
  where
    by : (b : Bool) → nat_eq t.place n ≡ b → cond b (make t.name) None ≡ Some item
        → (u : TableExport) × ((Some t ≡ Some u) × (u.place ≡ n) × (make u.name ≡ Some item))
    by true h q = (t, (refl, eqb-true t.place n h, q))
    by false h q = absurd (none_some item q)

module _ (parts : HelperParts) where
  -- ---- from what is there to what is supplied

  -- a helper that is there with what it uses is supplied
  pub supplied_from : (i : ℕ) → i < count parts → is_there (helper_item parts i) ≡ true → is_ready parts i ≡ true → is_supplied parts i ≡ true
  supplied_from i lt there ready =
      and_from (nat_lt i (count parts)) (is_there (helper_item parts i) && is_ready parts i) (lt-ltb i (count parts) lt)
      (and_from (is_there (helper_item parts i)) (is_ready parts i) there ready)

  -- and one that is supplied is there with what it uses
  pub supplied_parts : (i : ℕ) → is_supplied parts i ≡ true
      → (i < count parts) × (is_there (helper_item parts i) ≡ true) × (is_ready parts i ≡ true)
  supplied_parts i h =
      let p = and_parts (nat_lt i (count parts)) (is_there (helper_item parts i) && is_ready parts i) h in
      let q = and_parts (is_there (helper_item parts i)) (is_ready parts i) p.1 in
      (ltb-true i (count parts) p.0, q.0, q.1)

  -- readiness by number is that of a helper without a place
  pub single_is_ready : (i : ℕ) → i < SINGLES → is_ready parts i ≡ single_ready parts (single_at i)
  single_is_ready i lt = ap (λ b. cond b (single_ready parts (single_at i)) (family_ready parts (family_at (family_of i)))) (lt-ltb i SINGLES lt)

  -- and of one with a place
  pub family_is_ready : (i : ℕ) → SINGLES ≤ i → is_ready parts i ≡ family_ready parts (family_at (family_of i))
  family_is_ready i le = ap (λ b. cond b (single_ready parts (single_at i)) (family_ready parts (family_at (family_of i)))) (le-ltb i SINGLES le)

  -- all helpers are ready, where a value can be added
  singles_ready : is_adding parts ≡ true → (x : Single) → single_ready parts x ≡ true
  singles_ready adding single.HandleError = adding
  singles_ready adding other = refl

  -- and all with a place
  families_ready : is_adding parts ≡ true → (f : Family) → family_ready parts f ≡ true
  families_ready adding (family.Memory memory.PassValues) = adding
  families_ready adding other = refl

  -- so are all by number
  pub adding_ready : is_adding parts ≡ true → (i : ℕ) → is_ready parts i ≡ true
  adding_ready adding i = by (nat_lt i SINGLES)
    where
      by : (b : Bool) → cond b (single_ready parts (single_at i)) (family_ready parts (family_at (family_of i))) ≡ true
      by true = singles_ready adding (single_at i)
      by false = families_ready adding (family_at (family_of i))

  -- a name that words of a helper bind is provided, where the helper is there with what it uses
  provided_by : (i : ℕ) (item : Item) (name : List ℕ) → i < count parts → helper_item parts i ≡ Some item → is_ready parts i ≡ true
      → IsIn name (bound_in item.words) → IsProvided parts name
  provided_by i item name lt there ready at = (
    i,
    (
      finds_law parts name i lt (subst (λ (o : Option Item). IsIn name (bound_in (item_words o))) (sym there) at),
      supplied_from i lt (ap is_there there) ready,
    ),
  )

  -- the helpers that take nothing of the module are ready
  base_ready : (j : ℕ) → j < bases → is_ready parts j ≡ true
  base_ready j lt = agree_below_at (is_ready parts) (λ i. true) bases j refl lt

  -- and their names provided
  pub base_provided : (name : List ℕ) → IsIn name base_names → IsProvided parts name
  base_provided name at =
      let r = base_found parts name at in
      let lt : r.0 < count parts = omega (arith, r.1.0) in
      (r.0, (finds_law parts name r.0 lt r.1.1, supplied_from r.0 lt (bound_there parts r.0 name r.1.1) (base_ready r.0 r.1.0)))

  -- a name of a helper without a place is provided
  pub single_provides : (i : ℕ) (x : Single) (item : Item) (name : List ℕ) → i < SINGLES → single_at i ≡ x → single_item parts x ≡ Some item
      → single_ready parts x ≡ true → IsIn name (bound_in item.words) → IsProvided parts name
  single_provides i x item name lt is there ready at =
      provided_by i item name (omega (arith, lt)) (single_made parts i lt ∙ ap (single_item parts) is ∙ there)
      (single_is_ready i lt ∙ ap (single_ready parts) is ∙ ready) at

  -- a place that is given
  within : (f : Family) (n : ℕ) (item : Item) → family_item parts f n ≡ Some item → n < max (length parts.memories) (table_places parts.table)
  within (family.Memory m) n item e =
      let g = of_memory_given (λ export. memory_item parts m n export) (slice_get parts.memories n) item e in
      omega (arith, slice_get_within parts.memories n (Some g.0) g.1.0)
  within (family.Table t) n item e =
      let g = of_table_given (λ export. table_item parts t n export) n parts.table item e in
      let places : table_places parts.table ≡ g.0.place + 1 = ap table_places g.1.0 in omega (arith, places, g.1.1)

  -- the number of a helper with a place that is there
  pub family_near : (q n : ℕ) (item : Item) → q < FAMILIES → n < 2 ^ 32 → family_item parts (family_at q) n ≡ Some item → node_at q n < count parts
  family_near q n item lt small e = omega (arith, lt, small, within (family_at q) n item e)

  -- the item of a helper with a place, by its number
  pub family_there : (q n : ℕ) → q < FAMILIES → helper_item parts (node_at q n) ≡ family_item parts (family_at q) n
  family_there q n lt =
      family_made parts (node_at q n) (omega arith)
      ∙ ap (λ (r : ℕ). family_item parts (family_at r) (place_of (node_at q n))) (node_family q n lt)
      ∙ ap (λ (m : ℕ). family_item parts (family_at q) m) (node_place q n lt)

  -- and its readiness
  pub family_ready_at : (q n : ℕ) → q < FAMILIES → is_ready parts (node_at q n) ≡ family_ready parts (family_at q)
  family_ready_at q n lt = family_is_ready (node_at q n) (omega arith) ∙ ap (λ (r : ℕ). family_ready parts (family_at r)) (node_family q n lt)

  -- a name of a helper with a place is provided
  pub family_provides : (q n : ℕ) (f : Family) (item : Item) (name : List ℕ) → q < FAMILIES → n < 2 ^ 32 → family_at q ≡ f → family_item parts f n ≡ Some item
      → family_ready parts f ≡ true → IsIn name (bound_in item.words) → IsProvided parts name
  family_provides q n f item name lt small is there ready at =
      let here : family_item parts (family_at q) n ≡ Some item = ap (λ (g : Family). family_item parts g n) is ∙ there in
      provided_by (node_at q n) item name (family_near q n item lt small here) (family_there q n lt ∙ here)
      (family_ready_at q n lt ∙ ap (family_ready parts) is ∙ ready) at

  -- ---- the helpers that others use

  module _ (n : ℕ) (export : List ℕ) (small : n < 2 ^ 32) (given : slice_get parts.memories n ≡ Some (Some export)) where
    -- a name of a helper that goes by this memory is provided
    memory_provides : (q : ℕ) (m : MemoryHelper) (item : Item) (name : List ℕ) → q < FAMILIES → family_at q ≡ family.Memory m
        → memory_item parts m n export ≡ Some item → family_ready parts (family.Memory m) ≡ true → IsIn name (bound_in item.words)
        → IsProvided parts name
    memory_provides q m item name lt is there ready at =
        family_provides q n (family.Memory m) item name lt small is
        (ap (of_memory (λ export. memory_item parts m n export)) given ∙ there) ready at

    -- so is that of a view, whose place in the list is given
    view_at : (q : ℕ) (e : ElementKind) → q < FAMILIES → family_at q ≡ family.Memory (memory.ArrayView e) → IsProvided parts (array_view_name e n)
    view_at q e lt is =
        memory_provides q (memory.ArrayView e) (array_view e n export) (array_view_name e n) lt is refl refl
        (subst (λ (ns : List (List ℕ)). IsIn (array_view_name e n) ns) (sym (array_view_holds n export e).binds) (inr (inl refl)))

    -- the views of a memory that is given
    pub view_provided : (e : ElementKind) → IsProvided parts (array_view_name e n)
    view_provided element.I8 = view_at 0 element.I8 (omega arith) refl
    view_provided element.U8 = view_at 1 element.U8 (omega arith) refl
    view_provided element.I16 = view_at 2 element.I16 (omega arith) refl
    view_provided element.U16 = view_at 3 element.U16 (omega arith) refl
    view_provided element.I32 = view_at 4 element.I32 (omega arith) refl
    view_provided element.U32 = view_at 5 element.U32 (omega arith) refl
    view_provided element.I64 = view_at 6 element.I64 (omega arith) refl
    view_provided element.U64 = view_at 7 element.U64 (omega arith) refl

    -- and the view of numbers
    pub data_provided : IsProvided parts (data_view_name n)
    data_provided =
        memory_provides 8 memory.DataView (data_view n export) (data_view_name n) (omega arith) refl refl refl
        (subst (λ (ns : List (List ℕ)). IsIn (data_view_name n) ns) (sym (data_view_holds n export).binds) (inr (inl refl)))

  -- what adds to the table
  pub add_provided : (t : TableExport) → parts.table ≡ Some t → parts.externref ≡ true → is_adding parts ≡ true → IsProvided parts (add_name t.place)
  add_provided t given through ready = by parts.externref_alloc refl (ap (λ (o : Option TableExport). can_add o parts.externref_alloc) (sym given) ∙ able)
    where
      able : can_add parts.table parts.externref_alloc ≡ true
      able = ap (λ (b : Bool). cond b (can_add parts.table parts.externref_alloc) true) (sym through) ∙ ready

      same : nat_eq t.place t.place ≡ true
      same = grind arith

      by : (o : Option (List ℕ)) → parts.externref_alloc ≡ o → can_add (Some t) o ≡ true → IsProvided parts (add_name t.place)
      by None e h = absurd (true≢false (sym h))
      by (Some allocate) e h =
          family_provides 25 t.place (family.Table table.Add) (add_to_table t.place t.name allocate) (add_name t.place) (omega arith)
          (ltb-true t.place (2 ^ 32) h) refl
          (ap (of_table (λ export. table_item parts table.Add t.place export) t.place) given
          ∙ ap (λ (b : Bool). cond b (added t.place t.name parts.externref_alloc) None) same ∙ ap (added t.place t.name) e) refl
          (subst (λ (ns : List (List ℕ)). IsIn (add_name t.place) ns) (sym (add_to_table_holds t.place t.name allocate).binds) (inl refl))

  -- what registers closures
  pub closures_provided : (destroy : List ℕ) → parts.destroy_closure ≡ Some destroy → IsProvided parts (codes "CLOSURE_DTORS")
  closures_provided destroy given =
      single_provides 21 (single.Closure closure.ClosureFinalization) (closure_item closure.ClosureFinalization destroy) (codes "CLOSURE_DTORS") (omega arith)
      refl (ap (closure_made closure.ClosureFinalization) given) refl
      (subst (λ (ns : List (List ℕ)). IsIn (codes "CLOSURE_DTORS") ns) (sym (closure_holds destroy closure.ClosureFinalization).binds) (inl refl))
