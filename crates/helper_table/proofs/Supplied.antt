-- The helpers that are held where all that are asked for are supplied: each belongs into a file that declares `wasm` and what they declare, and
-- has the exports that the parts give; and they declare each name once.
use Rattle.std.proofs.Common.{◌≡◌, ℕ, ◌<◌, ◌≤◌, List, [], ◌∷◌, ◌++◌, Bool, true, false, All, inl, inr, refl, sym, ap, ◌∙◌, subst, cond, arith, ◌⊎◌, zero, suc}
use Rattle.std.specs.Prelude.{Option, Some, None, nat_lt, codes}
use Rattle.std.specs.List.{filter_map, cons_option, list_any}
use Rattle.std.proofs.lemmas.Bool.{ltb-true, ltb-false, cases_lt}
use Rattle.std.proofs.lemmas.List.Elements.{All-nil, All-cons, All-weaker}
use Rattle.values.specs.Lists.{IsIn, AreDistinct}
use Rattle.values.proofs.Members.{in_left, in_right, in_either}
use Rattle.glue_words.specs.declared.word.Word.{Word}
use Rattle.glue_words.specs.declared.item.Item.{Item}
use Rattle.glue_words.specs.Linking.{AreAmong}
use Rattle.glue_words.specs.Names.{bound_in, used_in, wasm_in, is_export_key}
use Rattle.glue_words.proofs.Among.{among_by}
use Rattle.glue_words.proofs.Belonging.{AllItems, Belongs, Context}
use Rattle.glue_words.proofs.Fitting.{the_module}
use Rattle.helper_set.specs.Helpers.{referred, held_item}
use Rattle.helper_table.specs.declared.parts.HelperParts.{HelperParts}
use Rattle.helper_table.specs.declared.kinds.TheConstants.{SINGLES}
use Rattle.helper_table.specs.Made.{helper_item, helper_words, item_words, is_there, single_at, family_at, family_of, place_of, count}
use Rattle.helper_table.specs.Numbers.{single_made, family_made}
use Rattle.helper_table.specs.Closed.{AreAsked, binder, AreHeld, asked_helpers}
use Rattle.helper_table.specs.Laws.{finds_law, binds_law, near, place_small}
use Rattle.helper_table.proofs.Own.{entry_item}
use Rattle.helper_table.proofs.Steps.{asked_all, all_asked}
use Rattle.helper_table.proofs.HeldItems.{IsEntryWell, helper_hosts, none_some, some_is, item_names, look, each_name, items_belong, items_inner, items_take, items_distinct, found_declared}
use Rattle.helper_table.proofs.Held.{base_names}
use Rattle.helper_table.proofs.Supplies.{is_adding, is_ready, is_supplied, IsProvided, given_exports, supplied_from, supplied_parts, single_is_ready, family_is_ready, adding_ready, base_provided}
use Rattle.helper_table.proofs.SuppliedTexts.{IsSuppliedWell, single_stands, family_stands}
use Rattle.helper_table.proofs.SuppliedNames.{there_item}
use Rattle.helper_table.proofs.ListedNames.{IsListed, there_listed, unlisted_unbound, unlisted_not}

-- what is found for names is so, where each that is found is
all_found_so : (P : ℕ → Type 0) (find : List ℕ → Option ℕ) (names : List (List ℕ))
    → ((name : List ℕ) (j : ℕ) → IsIn name names → find name ≡ Some j → P j) → All P (filter_map find names)
all_found_so P find [] give = All-nil P
all_found_so P find (name ∷ names) give =
    by (find name) (give name) (all_found_so P find names (λ n j at. give n j (inr at)))
  where
    by : (o : Option ℕ) → ((j : ℕ) → IsIn name (name ∷ names) → o ≡ Some j → P j) → All P (filter_map find names)
        → All P (cons_option o (filter_map find names))
    by None here rest = rest
    by (Some j) here rest = All-cons P j (filter_map find names) (here j (inl refl) refl) rest

module _ (parts : HelperParts) where
  -- no helper binds `wasm`
  pub wasm_unbound : binder parts (codes "wasm") ≡ None
  wasm_unbound = unlisted_unbound parts (codes "wasm") (unlisted_not parts (codes "wasm") refl)

  -- a helper that is supplied is there, and stands well
  pub supplied_stands : (i : ℕ) → is_supplied parts i ≡ true → (item : Item) × ((helper_item parts i ≡ Some item) × IsSuppliedWell parts item)
  supplied_stands i h =
      let p = supplied_parts parts i h in
      let t = there_item (helper_item parts i) p.1 in
      (t.0, (t.1, by (nat_lt i SINGLES) refl p.0 p.2 t.0 t.1))
    where
      by : (b : Bool) → nat_lt i SINGLES ≡ b → (lt : i < count parts) → is_ready parts i ≡ true → (item : Item) → helper_item parts i ≡ Some item
          → IsSuppliedWell parts item
      by true e lt ready item there =
          let below = ltb-true i SINGLES e in
          single_stands parts (single_at i) item (sym (single_made parts i below) ∙ there) (sym (single_is_ready parts i below) ∙ ready)
      by false e lt ready item there =
          let above = ltb-false i SINGLES e in
          family_stands parts (family_at (family_of i)) (place_of i) item (place_small i (near parts i lt)) (sym (family_made parts i above) ∙ there)
          (sym (family_is_ready parts i above) ∙ ready)

  -- what the words of such a helper refer to is supplied
  pub supplied_closed : (i : ℕ) → is_supplied parts i ≡ true → All (λ j. is_supplied parts j ≡ true) (referred (binder parts) (helper_words parts i))
  supplied_closed i h =
      let s = supplied_stands i h in
      let item = s.0 in
      let words : helper_words parts i ≡ item.words = ap item_words s.1.0 in
      let lt = (supplied_parts parts i h).0 in
      all_found_so (λ j. is_supplied parts j ≡ true) (binder parts) (used_in (helper_words parts i)) (λ name j used found.
      elim (s.1.1.uses name (subst (λ (ws : List Word). IsIn name (used_in ws)) words used)) [
        | inl (inl own) ↦
            let self : binder parts name ≡ Some i = finds_law parts name i lt (subst (λ (ws : List Word). IsIn name (bound_in ws)) (sym words) own) in
            subst (λ (k : ℕ). is_supplied parts k ≡ true) (some_is i j (sym self ∙ found)) h
        | inl (inr (inl outer)) ↦ absurd (none_some j (sym wasm_unbound ∙ ap (binder parts) (sym outer) ∙ found))
        | inl (inr (inr none)) ↦ absurd none
        | inr other ↦ subst (λ (k : ℕ). is_supplied parts k ≡ true) (some_is other.0 j (sym other.1.0 ∙ found)) other.1.1
      ])

  module _ (needed : List ℕ) (items : List Item) (h : AreHeld parts needed items) (roots : All (λ i. is_supplied parts i ≡ true) needed) where
    -- each held helper is supplied
    pub held_supplied : (i : ℕ) → h.helpers.held i ≡ true → is_supplied parts i ≡ true
    held_supplied i held = h.helpers.least.least (is_supplied parts) roots supplied_closed i held

    -- an entry is that of a helper that is supplied
    abbrev IsEntrySupplied : (List ℕ × List Word) → Type 0
    IsEntrySupplied e = (i : ℕ) × ((helper_item parts i ≡ Some (held_item e)) × (is_supplied parts i ≡ true))

    -- each entry is so
    entry_supplied : (e : List ℕ × List Word) → IsIn e h.entries → IsEntrySupplied e
    entry_supplied e at =
        let node = h.helpers.entries_are.only e.0 e.1 (look parts needed items h e at) in
        let s = held_supplied node.0 node.1.0 in
        (node.0, (entry_item parts node.0 e.0 e.1 (supplied_parts parts node.0 s).1 node.1.1 node.1.2, s))

    -- and its item stands well
    entry_well : (e : List ℕ × List Word) → IsIn e h.entries → IsEntryWell parts (is_supplied parts) the_module (given_exports parts) e
    entry_well e at =
        let o = entry_supplied e at in
        let s = supplied_stands o.0 o.1.1 in (
          o.0,
          (
            o.1.0,
            near parts o.0 (supplied_parts parts o.0 o.1.1).0,
            subst (IsSuppliedWell parts) (some_is s.0 (held_item e) (sym s.1.0 ∙ o.1.0)) s.1.1,
          ),
        )

    -- each item belongs into a file that declares what all declare and `wasm`, and has the host's names and the exports
    pub supplied_belong : (c : Context) → IsIn (codes "wasm") c.declared → AreAmong (item_names items) c.declared → AreAmong helper_hosts c.hosts
        → AreAmong (given_exports parts) c.exports → AllItems (λ item. Belongs c item.words) items
    supplied_belong c wasm declared hosts exports =
        items_belong parts needed items h (is_supplied parts) the_module (given_exports parts) entry_well c (wasm, declared) hosts exports

    -- none is exported
    pub supplied_inner : AllItems (λ item. list_any is_export_key item.words ≡ false) items
    supplied_inner = items_inner parts needed items h (is_supplied parts) the_module (given_exports parts) entry_well

    -- all take exports alone that the parts give
    pub supplied_take : AllItems (λ item. AreAmong (wasm_in item.words) (given_exports parts)) items
    supplied_take = items_take parts needed items h (is_supplied parts) the_module (given_exports parts) entry_well

    -- all names are declared once
    pub supplied_distinct : AreDistinct (item_names items)
    supplied_distinct = items_distinct parts needed items h (is_supplied parts) the_module (given_exports parts) entry_well

    -- and each stands in the list of names, or in that of a memory or of the table
    pub supplied_listed : (name : List ℕ) → IsIn name (item_names items) → IsListed parts name
    supplied_listed = each_name parts needed items h (IsListed parts) (λ e at name k.
        let o = entry_supplied e at in there_listed parts o.0 (held_item e) name (supplied_parts parts o.0 o.1.1).0 o.1.0 k)

  -- ---- helpers that items ask for

  -- all are supplied, where each name to which words refer is that of no helper or provided
  pub asked_supplied : (before : List Item)
      → ((item : Item) (name : List ℕ) → IsIn item before → IsIn name (used_in item.words) → (binder parts name ≡ None) ⊎ IsProvided parts name)
      → All (λ i. is_supplied parts i ≡ true) (asked_helpers parts before)
  asked_supplied before give = asked_all parts (λ i. is_supplied parts i ≡ true) before (λ item name i at used found.
      elim (give item name at used) [
        | inl none ↦ absurd (none_some i (sym none ∙ found))
        | inr other ↦ subst (λ (k : ℕ). is_supplied parts k ≡ true) (some_is other.0 i (sym other.1.0 ∙ found)) other.1.1
      ])

  -- and where all that values go through is given: what is asked for is there
  pub adding_supplied : (before : List Item) → is_adding parts ≡ true → All (λ i. is_supplied parts i ≡ true) (asked_helpers parts before)
  adding_supplied before adding =
      All-weaker (λ i. (i < count parts) × (is_there (helper_item parts i) ≡ true)) (λ i. is_supplied parts i ≡ true)
      (λ i p. supplied_from parts i p.0 p.1 (adding_ready parts adding i)) (asked_helpers parts before) (all_asked parts before)

  -- a name to which a word of the items before refers is declared, where it is provided
  pub provided_declared : (before items : List Item) (h : AreAsked parts before items) (item : Item) (name : List ℕ) → IsIn item before
      → IsIn name (used_in item.words) → IsProvided parts name → IsIn name (item_names items)
  provided_declared before items h item name at used found = found_declared parts before items h item name found.0 at used found.1.0

-- ---- the names that are provided, as a list

-- those of the helpers whose numbers are below this one
unfoldable pub names_below : HelperParts → ℕ → List (List ℕ)
names_below parts zero = []
names_below parts (suc n) = cond (is_supplied parts n) (bound_in (helper_words parts n)) [] ++ names_below parts n

-- all of them
abbrev pub provided_names : HelperParts → List (List ℕ)
provided_names parts = names_below parts (count parts)

module _ (parts : HelperParts) (name : List ℕ) where
  -- a name that such a helper binds is among them
  into_below : (n j : ℕ) → j < n → is_supplied parts j ≡ true → IsIn name (bound_in (helper_words parts j)) → IsIn name (names_below parts n)
  unfolding names_below
  into_below zero j lt s at = absurd (omega (arith, lt))
  into_below (suc n) j lt s at = elim (cases_lt j n) [
    | inl below ↦ in_right name (cond (is_supplied parts n) (bound_in (helper_words parts n)) []) (names_below parts n) (into_below n j below s at)
    | inr up ↦
        let same : j ≡ n = omega (arith, lt, up) in
        let here : IsIn name (cond (is_supplied parts j) (bound_in (helper_words parts j)) []) =
        subst (λ (b : Bool). IsIn name (cond b (bound_in (helper_words parts j)) [])) (sym s) at in
        in_left name (cond (is_supplied parts n) (bound_in (helper_words parts n)) []) (names_below parts n)
        (subst (λ (k : ℕ). IsIn name (cond (is_supplied parts k) (bound_in (helper_words parts k)) [])) same here)
  ]

  -- and each of them is provided
  out_of_below : (n : ℕ) → n ≤ count parts → IsIn name (names_below parts n) → IsProvided parts name
  unfolding names_below
  out_of_below zero le at = absurd at
  out_of_below (suc n) le at = elim (in_either name (cond (is_supplied parts n) (bound_in (helper_words parts n)) []) (names_below parts n) at) [
    | inl here ↦ by (is_supplied parts n) refl here
    | inr later ↦ out_of_below n (omega (arith, le)) later
  ]
    where
      by : (b : Bool) → is_supplied parts n ≡ b → IsIn name (cond b (bound_in (helper_words parts n)) []) → IsProvided parts name
      by true s k = (n, (finds_law parts name n (omega (arith, le)) k, s))
      by false s k = absurd k

  -- each that is provided is one of them
  pub provided_in : IsProvided parts name → IsIn name (provided_names parts)
  provided_in found = let b = binds_law parts name found.0 found.1.0 in into_below (count parts) found.0 b.0 found.1.1 b.1

  -- and each of them is provided
  pub in_provided : IsIn name (provided_names parts) → IsProvided parts name
  in_provided at = out_of_below (count parts) (omega arith) at

-- the names that are there whatever the module gives are among them
pub base_among : (parts : HelperParts) → AreAmong base_names (provided_names parts)
base_among parts = among_by base_names (provided_names parts) (λ name at. provided_in parts name (base_provided parts name at))
