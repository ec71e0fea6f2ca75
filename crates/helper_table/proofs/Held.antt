-- The helpers that are there whatever the module gives, and those that are held where it gives no memory, no table and no function for them:
-- each belongs into a file that declares what they declare, and they declare each name once.
use Rattle.std.proofs.Common.{◌≡◌, ℕ, ◌<◌, List, [], ◌∷◌, ◌++◌, Bool, true, false, inl, inr, refl, sym, ap, ◌∙◌, subst, cond, arith, ◌+◌, zero, suc, length, take}
use Rattle.std.specs.Prelude.{Option, Some, None, nat_lt, codes, slice_get}
use Rattle.std.specs.List.{list_any}
use Rattle.std.proofs.lemmas.Bool.{ltb-true}
use Rattle.values.specs.Lists.{IsIn, AreDistinct}
use Rattle.values.proofs.Members.{in_either}
use Rattle.glue_words.specs.declared.word.Word.{Word}
use Rattle.glue_words.specs.declared.item.Item.{Item}
use Rattle.glue_words.specs.Linking.{AreAmong}
use Rattle.glue_words.specs.Names.{bound_in, used_in, hosted_in, wasm_in, is_export_key}
use Rattle.glue_words.proofs.Among.{among_trans, among_by, among_in, among_left, among_right}
use Rattle.glue_words.proofs.Belonging.{AllItems, Belongs, Context}
use Rattle.glue_words.proofs.Fitting.{belongs_by_facts}
use Rattle.glue_heap.specs.declared.key.HeapKey.{HeapKey}
use Rattle.glue_heap.specs.declared.key.HeapKey.TheVariants as heap
use Rattle.glue_heap.specs.HeapItems.{heap_item, heap_words}
use Rattle.glue_heap.specs.HeapKeys.{heap_name}
use Rattle.glue_heap.proofs.HeapFacts.{heap_used_names, heap_host_names, heap_bound, heap_takes, heap_inner, heap_uses, heap_hosts, heap_fits}
use Rattle.glue_helpers.specs.declared.plain.PlainHelper.{PlainHelper}
use Rattle.glue_helpers.specs.declared.plain.PlainHelper.TheVariants as plain
use Rattle.glue_helpers.specs.Plain.{plain_item, names_of}
use Rattle.glue_helpers.proofs.PlainTexts.{plain_holds, plain_fits}
pub use Rattle.helper_set.specs.Helpers.{held_item}
use Rattle.helper_table.specs.declared.parts.EncoderForm.{EncoderForm}
use Rattle.helper_table.specs.declared.parts.EncoderForm.TheVariants as encoder
use Rattle.helper_table.specs.declared.parts.HelperParts.{HelperParts}
use Rattle.helper_table.specs.declared.kinds.Single.{Single}
use Rattle.helper_table.specs.declared.kinds.Single.TheVariants as single
use Rattle.helper_table.specs.declared.kinds.Family.{Family}
use Rattle.helper_table.specs.declared.kinds.Family.TheVariants as family
use Rattle.helper_table.specs.declared.kinds.TheConstants.{SINGLES, DECODER}
use Rattle.helper_table.specs.Names.{single_names}
use Rattle.helper_table.specs.Made.{single_item, family_item, helper_item, helper_words, single_at, family_at, family_of, place_of, formed, decoder_form, encoder_form, item_words, of_memory, of_table, closure_made, error_handled}
use Rattle.helper_table.specs.Closed.{IsBare, IsNode, AreAsked, binder, AreHeld}
use Rattle.helper_table.specs.Laws.{finds_law, text_in, any_in}
use Rattle.helper_table.specs.Told.{IsBound, told, before}
pub use Rattle.helper_table.proofs.HeldItems.{helper_hosts}
use Rattle.helper_table.proofs.HeldItems.{StandsWell, IsBoundBy, IsEntryWell, among_test, none_some, some_is, item_names, look, each_entry, each_name, items_belong, items_inner, items_distinct, found_declared}

-- ---- helpers that take nothing of the module

-- the names of the object table that its parts use
abbrev pub heap_uses_all : List (List ℕ)
heap_uses_all = codes "heap" ∷ codes "heap_next" ∷ codes "stack_pointer" ∷ codes "getObject" ∷ codes "dropObject" ∷ []

-- names of helpers that are there whatever the module gives, one of each, by the helpers' numbers
abbrev pub free_names : List (List ℕ)
free_names = take 18 single_names ++ codes "decodeText" ∷ []

-- an item stands well that takes no export, and uses its own names and those of the object table
pub record StandsFree (item : Item) : Type 0 where
  once_each : AreDistinct (bound_in item.words)
  inner : list_any is_export_key item.words ≡ false
  uses : AreAmong (used_in item.words) (bound_in item.words ++ heap_uses_all)
  hosts : AreAmong (hosted_in item.words) helper_hosts
  takes : AreAmong (wasm_in item.words) []
  belongs : (c : Context) → AreAmong (used_in item.words) c.declared → AreAmong helper_hosts c.hosts → Belongs c item.words

-- it does so whatever else is there, where the object table is
pub stands_with : (parts : HelperParts) (test : ℕ → Bool) (outer exports : List (List ℕ)) (item : Item)
    → ((name : List ℕ) → IsIn name heap_uses_all → IsBoundBy parts test name) → StandsFree item → StandsWell parts test outer exports item
stands_with parts test outer exports item found free = record {
  once_each = free.once_each;
  inner = free.inner;
  uses = λ name used.
      elim (in_either name (bound_in item.words) heap_uses_all (among_in name (used_in item.words) (bound_in item.words ++ heap_uses_all) free.uses used)) [
        | inl own ↦ inl (inl own)
        | inr base ↦ inr (found name base)
      ];
  hosts = free.hosts;
  takes = among_trans (wasm_in item.words) [] exports free.takes tt;
  belongs = λ c uses hosts given. free.belongs c uses hosts;
}

-- a part of the object table uses such names alone
heap_used : (k : HeapKey) → AreAmong (heap_used_names k) heap_uses_all
heap_used heap.Heap = grind arith
heap_used key = grind arith

-- and names of the host that helpers use
heap_hosted : (k : HeapKey) (debug : Bool) → AreAmong (heap_host_names k debug) helper_hosts
heap_hosted heap.AddHeapObject true = grind arith
heap_hosted heap.AddHeapObject false = grind arith
heap_hosted key debug = grind arith

-- it stands well
pub heap_stands : (k : HeapKey) (debug : Bool) → StandsFree (heap_item k debug)
heap_stands k debug =
    let words = heap_words k debug in
    let same = heap_uses k debug in record {
      once_each = subst AreDistinct (sym (heap_bound k debug)) ((λ none. none), tt);
      inner = heap_inner k debug;
      uses = among_right (used_in words) (bound_in words) heap_uses_all
          (among_trans (used_in words) (heap_used_names k) heap_uses_all same.there (heap_used k));
      hosts = among_trans (hosted_in words) (heap_host_names k debug) helper_hosts (heap_hosts k debug).there (heap_hosted k debug);
      takes = subst (λ (ns : List (List ℕ)). AreAmong ns []) (sym (heap_takes k debug)) tt;
      belongs = λ c uses hosts. belongs_by_facts c words (heap_fits k debug c
          (among_trans (heap_used_names k) (used_in words) c.declared same.back uses)
          (among_trans (heap_host_names k debug) helper_hosts c.hosts (heap_hosted k debug) hosts));
    }

-- a helper without stand-ins declares each name once
plain_distinct : (h : PlainHelper) → AreDistinct (names_of h).binds
plain_distinct plain.TextDecoder = grind arith
plain_distinct plain.BrowserTextDecoder = grind arith
plain_distinct other = ((λ none. none), tt)

-- uses its own names alone
plain_used : (h : PlainHelper) → AreAmong (names_of h).uses (names_of h).binds
plain_used plain.TextDecoder = grind arith
plain_used plain.BrowserTextDecoder = grind arith
plain_used other = grind arith

-- and names of the host that helpers use
plain_hosted : (h : PlainHelper) → AreAmong (names_of h).hosts helper_hosts
plain_hosted plain.TextDecoder = grind arith
plain_hosted other = grind arith

-- takes no export
plain_taken : (h : PlainHelper) → AreAmong (names_of h).takes []
plain_taken plain.TextDecoder = tt
plain_taken other = tt

-- and stands well
pub plain_stands : (h : PlainHelper) → StandsFree (plain_item h)
plain_stands h =
    let words = (plain_item h).words in
    let holds = plain_holds h in
    let own : AreAmong (names_of h).uses (bound_in words) = rw holds.binds (plain_used h) in record {
      once_each = subst AreDistinct (sym holds.binds) (plain_distinct h);
      inner = holds.unexported;
      uses = among_left (used_in words) (bound_in words) heap_uses_all
          (among_trans (used_in words) (names_of h).uses (bound_in words) holds.uses.0 own);
      hosts = among_trans (hosted_in words) (names_of h).hosts helper_hosts holds.hosts.0 (plain_hosted h);
      takes = among_trans (wasm_in words) (names_of h).takes [] holds.takes.0 (plain_taken h);
      belongs = λ c uses hosts. belongs_by_facts c words (plain_fits c h
          (among_trans (names_of h).uses (used_in words) c.declared holds.uses.1 uses)
          (among_trans (names_of h).hosts helper_hosts c.hosts (plain_hosted h) hosts));
    }

-- ---- their names

-- the number of helpers that take nothing of the module, the first of all
abbrev pub bases : ℕ
bases = 21

-- their names, of each the first, and one more of the text decoder's
abbrev pub base_names : List (List ℕ)
base_names = take bases single_names ++ codes "decodeText" ∷ []

module _ (parts : HelperParts) where
  -- names that the helpers bind whose numbers follow this one
  abbrev AreFrom : ℕ → List (List ℕ) → Type 0
  AreFrom i [] = Unit {0}
  AreFrom i (name ∷ names) = IsIn name (bound_in (helper_words parts i)) × AreFrom (suc i) names

  -- a part of the object table binds its name
  by_heap : (k : HeapKey) → IsIn (heap_name k) (bound_in (heap_words k parts.debug))
  by_heap k = subst (λ (ns : List (List ℕ)). IsIn (heap_name k) ns) (sym (heap_bound k parts.debug)) (inl refl)

  -- a helper without stand-ins binds each of its names
  by_plain : (h : PlainHelper) (name : List ℕ) → IsIn name (names_of h).binds → IsIn name (bound_in (plain_item h).words)
  by_plain h name at = subst (λ (ns : List (List ℕ)). IsIn name ns) (sym (plain_holds h).binds) at

  -- each form of the decoder binds the first of its names, and the one to which others refer
  decoder_first : (b : Bool) → IsIn (codes "cachedTextDecoder") (bound_in (plain_item (decoder_form b)).words)
  decoder_first false = by_plain plain.TextDecoder _ (inl refl)
  decoder_first true = by_plain plain.BrowserTextDecoder _ (inl refl)

  decoder_there : (b : Bool) → IsIn (codes "decodeText") (bound_in (plain_item (decoder_form b)).words)
  decoder_there false = by_plain plain.TextDecoder _ (any_in _ (names_of plain.TextDecoder).binds refl)
  decoder_there true = by_plain plain.BrowserTextDecoder _ (any_in _ (names_of plain.BrowserTextDecoder).binds refl)

  -- each form of the encoder binds its name
  encoder_first : (form : EncoderForm) → IsIn (codes "cachedTextEncoder") (bound_in (plain_item (encoder_form form)).words)
  encoder_first encoder.Own = by_plain plain.TextEncoder _ (inl refl)
  encoder_first encoder.Tested = by_plain plain.TestedTextEncoder _ (inl refl)
  encoder_first encoder.Copying = by_plain plain.CopyingTextEncoder _ (inl refl)

  -- the helpers that take nothing of the module bind their names
  bases_are : AreFrom 0 (take bases single_names)
  unfolding helper_item
  bases_are =
      before (by_heap heap.Heap)
      (before (by_heap heap.HeapNext)
      (before (by_heap heap.StackPointer)
      (before (by_heap heap.AddHeapObject)
      (before (by_heap heap.BorrowedObjects)
      (before (by_heap heap.DropRef)
      (before (by_heap heap.GetObject)
      (before (by_heap heap.TakeObject)
      (before (by_plain plain.AssertBigint _ (inl refl))
      (before (by_plain plain.AssertBool _ (inl refl))
      (before (by_plain plain.AssertClass _ (inl refl))
      (before (by_plain plain.AssertNum _ (inl refl))
      (before (by_plain plain.DebugString _ (inl refl))
      (before (by_plain plain.GetInheritedDescriptor _ (inl refl))
      (before (by_plain plain.IsLikeNone _ (inl refl))
      (before (by_plain plain.LogError _ (inl refl))
      (before (by_plain plain.NotDefined _ (inl refl))
      (before (by_plain plain.PanicError _ (inl refl))
      (before (decoder_first parts.browser)
      (before (encoder_first parts.encoder)
      (before (by_plain plain.WasmVectorLen _ (inl refl))
      tt))))))))))))))))))))

  -- the decoder binds the name to which others refer
  decoder_bound : IsIn (codes "decodeText") (bound_in (helper_words parts DECODER))
  unfolding helper_item
  decoder_bound = decoder_there parts.browser

  -- a helper that binds it, and a test of numbers
  abbrev IsFrom : ℕ → List ℕ → Type 0
  IsFrom many name = (j : ℕ) × ((j < many) × IsIn name (bound_in (helper_words parts j)))

  -- each of so many names has a helper
  from_in : (i : ℕ) (names : List (List ℕ)) → AreFrom i names → (name : List ℕ) → IsIn name names → IsFrom (i + length names) name
  from_in i [] h name at = absurd at
  from_in i (n ∷ names) h name (inl same) =
      (i, (omega arith, subst (λ (x : List ℕ). IsIn x (bound_in (helper_words parts i))) (sym same) h.0))
  from_in i (n ∷ names) h name (inr at) = let r = from_in (suc i) names h.1 name at in (r.0, (omega (arith, r.1.0), r.1.1))

  -- each of these names has a helper that takes nothing of the module
  pub base_found : (name : List ℕ) → IsIn name base_names → IsFrom bases name
  base_found name at = elim (in_either name (take bases single_names) (codes "decodeText" ∷ []) at) [
    | inl first ↦ from_in 0 (take bases single_names) bases_are name first
    | inr (inl same) ↦ (DECODER, (omega arith, subst (λ (x : List ℕ). IsIn x (bound_in (helper_words parts DECODER))) (sym same) decoder_bound))
    | inr (inr none) ↦ absurd none
  ]

  -- so have the free ones
  pub free_found : (name : List ℕ) → IsIn name free_names → (j : ℕ) × (binder parts name ≡ Some j)
  free_found name at =
      let r = base_found name (among_in name free_names base_names (among_test free_names base_names refl) at) in
      (r.0, finds_law parts name r.0 (omega (arith, r.1.0)) r.1.1)

-- what a helper without a place binds stands in the list of names
pub single_listed : (parts : HelperParts) (i : ℕ) (name : List ℕ) → nat_lt i SINGLES ≡ true → IsIn name (bound_in (helper_words parts i))
    → IsIn name single_names
single_listed parts i name t at =
    let k : IsBound true i name = subst (λ (b : Bool). IsBound b i name) t (told parts i name at) in
    subst (λ (x : List ℕ). IsIn x single_names) (sym k.1.2) (text_in single_names k.0 k.1.0)

-- ---- where the module gives nothing

-- no entry stands in an empty list
pub none_at : {A : Type 0} (i : ℕ) → slice_get {X = A} [] i ≡ None
none_at zero = refl
none_at (suc i) = refl

module _ (parts : HelperParts) (bare : IsBare parts) where
  -- a helper without a place that is there stands well
  single_stands : (x : Single) (item : Item) → single_item parts x ≡ Some item → StandsFree item
  single_stands (single.Heap k) item e = subst StandsFree (some_is _ _ e) (heap_stands k parts.debug)
  single_stands (single.Plain h) item e = subst StandsFree (some_is _ _ e) (plain_stands (formed parts h))
  single_stands (single.Closure h) item e = absurd (none_some item (ap (closure_made h) (sym bare.destroy) ∙ e))
  single_stands single.HandleError item e = absurd (none_some item (ap (error_handled parts.externref parts.table) (sym bare.store) ∙ e))

  -- no helper with a place is there
  family_none : (f : Family) (place : ℕ) (item : Item) → family_item parts f place ≡ Some item → ⊥
  family_none (family.Memory m) place item e =
      none_some item (ap (of_memory _) (sym (ap (λ (ms : List (Option (List ℕ))). slice_get ms place) bare.memories ∙ none_at place)) ∙ e)
  family_none (family.Table t) place item e = none_some item (ap (of_table _ place) (sym bare.table) ∙ e)

  -- a helper that is there has no place, and stands well
  abbrev IsOne : ℕ → Item → Type 0
  IsOne i item = (nat_lt i SINGLES ≡ true) × StandsFree item

  -- so each that is there is one without a place
  is_one_there : (i : ℕ) (item : Item) → helper_item parts i ≡ Some item → IsOne i item
  unfolding helper_item
  is_one_there i item e = by (nat_lt i SINGLES) refl e
    where
      by : (b : Bool) → nat_lt i SINGLES ≡ b
          → cond b (single_item parts (single_at i)) (family_item parts (family_at (family_of i)) (place_of i)) ≡ Some item → IsOne i item
      by true t q = (t, single_stands (single_at i) item q)
      by false t q = absurd (family_none (family_at (family_of i)) (place_of i) item q)

  -- and its number is one of a helper
  is_node : (i : ℕ) → nat_lt i SINGLES ≡ true → IsNode i
  is_node i t = let lt : i < SINGLES = ltb-true i SINGLES t in omega (arith, lt)

  -- the object table is there
  table_found : (name : List ℕ) → IsIn name heap_uses_all → IsBoundBy parts (λ i. true) name
  table_found name at =
      let f = free_found parts name (among_in name heap_uses_all free_names (among_test heap_uses_all free_names refl) at) in (f.0, (f.1, refl))

  module _ (needed : List ℕ) (items : List Item) (h : AreHeld parts needed items) where
    -- the helper of an entry is there
    entry_own : (e : List ℕ × List Word) → IsIn e h.entries → (i : ℕ) × (helper_item parts i ≡ Some (held_item e))
    entry_own e at = h.own e.0 e.1 (look parts needed items h e at)

    -- and stands well
    entry_well : (e : List ℕ × List Word) → IsIn e h.entries → IsEntryWell parts (λ i. true) [] [] e
    entry_well e at =
        let o = entry_own e at in
        let one = is_one_there o.0 (held_item e) o.1 in
        (o.0, (o.1, is_node o.0 one.0, stands_with parts (λ i. true) [] [] (held_item e) table_found one.1))

    -- what holds of each entry's item holds of each item
    pub each_held : (P : Item → Type 0) → ((e : List ℕ × List Word) → IsIn e h.entries → P (held_item e)) → AllItems P items
    each_held P give = each_entry parts needed items h P give

    -- each item belongs into a file that declares what all declare, and has the host's names
    pub held_belong : (c : Context) → AreAmong (item_names items) c.declared → AreAmong helper_hosts c.hosts → AllItems (λ item. Belongs c item.words) items
    held_belong c declared hosts = items_belong parts needed items h (λ i. true) [] [] entry_well c declared hosts tt

    -- none is exported
    pub held_inner : AllItems (λ item. list_any is_export_key item.words ≡ false) items
    held_inner = items_inner parts needed items h (λ i. true) [] [] entry_well

    -- all names are declared once
    pub held_distinct : AreDistinct (item_names items)
    held_distinct = items_distinct parts needed items h (λ i. true) [] [] entry_well

    -- and stand in the list of names
    pub held_listed : AreAmong (item_names items) single_names
    held_listed = among_by (item_names items) single_names (each_name parts needed items h (λ name. IsIn name single_names) (λ e at name k.
        let o = entry_own e at in
        single_listed parts o.0 name (is_one_there o.0 (held_item e) o.1).0 (subst (λ (ws : List Word). IsIn name (bound_in ws)) (sym (ap item_words o.1)) k)))

  -- the name of a helper to which a word of the items before refers is declared
  pub asked_declared : (before items : List Item) (h : AreAsked parts before items) (item : Item) (name : List ℕ) → IsIn item before
      → IsIn name (used_in item.words) → IsIn name free_names → IsIn name (item_names items)
  asked_declared before items h item name at used free =
      let f = free_found parts name free in found_declared parts before items h item name f.0 at used f.1
