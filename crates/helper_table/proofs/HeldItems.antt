-- The items of helpers that are held, where each stands well: each belongs into a file that declares what they declare, and they declare each
-- name once.
use Rattle.std.proofs.Common.{◌≡◌, ℕ, List, [], ◌∷◌, ◌++◌, map, Bool, true, false, inl, inr, refl, sym, ap, ◌∙◌, subst, cond, arith, All, ◌⊎◌}
use Rattle.std.specs.Prelude.{Option, Some, None, codes, fold, unwrap_or, nat_eq}
use Rattle.std.specs.List.{flat_map, filter_map, list_any, list_all, cons_option}
use Rattle.std.specs.Cmp.Lexicographic.{pointwise}
use Rattle.std.specs.Map.{keys_of}
use Rattle.std.proofs.lemmas.List.Folds.{flat_map-map}
use Rattle.std.proofs.lemmas.Bool.{and_parts}
use Rattle.std.proofs.lemmas.Bool.Decides.{nat_tests}
use Rattle.std.specs.Ordering.{nat_cmp}
use Rattle.std.specs.Cmp.Lexicographic.{slice_cmp, nat_list_cmp_total}
use Rattle.std.proofs.lemmas.List.Elements.{All-head, All-tail}
use Rattle.values.specs.Map.{look_up}
use Rattle.values.proofs.Maps.{ascending_distinct}
use Rattle.values.specs.Lists.{IsIn, AreDistinct}
use Rattle.values.proofs.Members.{in_left, in_right, in_either, distinct_both}
use Rattle.glue_words.specs.declared.word.Word.{Word}
use Rattle.glue_words.specs.declared.item.Item.{Item}
use Rattle.glue_words.specs.declared.item.Role.{Role}
use Rattle.glue_words.specs.declared.item.Role.TheVariants.{Helper}
use Rattle.glue_words.specs.Linking.{AreAmong}
use Rattle.glue_words.specs.Names.{bound_in, used_in, hosted_in, wasm_in, is_export_key}
use Rattle.glue_words.proofs.Among.{among_trans, among_by, apart_by}
use Rattle.glue_words.proofs.Belonging.{AllItems, Belongs, Context}
use Rattle.helper_set.specs.Helpers.{referred}
pub use Rattle.helper_set.specs.Helpers.{held_item}
use Rattle.helper_table.specs.declared.parts.HelperParts.{HelperParts}
use Rattle.helper_table.specs.Made.{helper_item, helper_words, helper_key, item_words}
use Rattle.helper_table.specs.Closed.{IsNode, AreAsked, binder, AreHeld, with_helper, with_binder, with_words, is_one, asked_helpers}
use Rattle.helper_table.specs.Laws.{binds_law, once, any_in}
use Rattle.helper_table.proofs.Entries.{is_found, stands}

-- ---- one item

-- the host's names that helpers use
abbrev pub helper_hosts : List (List ℕ)
helper_hosts =
    codes "Array" ∷ codes "Error" ∷ codes "JSON" ∷ codes "Object" ∷ codes "TextDecoder" ∷ codes "TextEncoder" ∷ codes "console"
    ∷ codes "toString" ∷ codes "undefined" ∷ codes "FinalizationRegistry" ∷ codes "DataView" ∷ codes "Int8Array" ∷ codes "Uint8Array"
    ∷ codes "Int16Array" ∷ codes "Uint16Array" ∷ codes "Int32Array" ∷ codes "Uint32Array" ∷ codes "BigInt64Array" ∷ codes "BigUint64Array" ∷ []

-- a name is found: a helper binds it, and the helper passes a test
abbrev pub IsBoundBy : HelperParts → (ℕ → Bool) → List ℕ → Type 0
IsBoundBy parts test name = (j : ℕ) × ((binder parts name ≡ Some j) × (test j ≡ true))

-- a name that words use is one of their own, one that others than helpers declare, or found
abbrev pub IsKnown : HelperParts → (ℕ → Bool) → (outer own : List (List ℕ)) → List ℕ → Type 0
IsKnown parts test outer own name = (IsIn name own ⊎ IsIn name outer) ⊎ IsBoundBy parts test name

-- an item stands well: it declares each name once, is not exported, knows the names that it uses, takes these exports and names of the host
-- alone, and belongs where these and what it uses are there
pub record StandsWell (parts : HelperParts) (test : ℕ → Bool) (outer exports : List (List ℕ)) (item : Item) : Type 0 where
  pub once_each : AreDistinct (bound_in item.words)
  pub inner : list_any is_export_key item.words ≡ false
  pub uses : (name : List ℕ) → IsIn name (used_in item.words) → IsKnown parts test outer (bound_in item.words) name
  pub hosts : AreAmong (hosted_in item.words) helper_hosts
  pub takes : AreAmong (wasm_in item.words) exports
  pub belongs : (c : Context) → AreAmong (used_in item.words) c.declared → AreAmong helper_hosts c.hosts → AreAmong exports c.exports
      → Belongs c item.words

-- ---- lists

-- what one gives is among what all give
pub in_flat : {A B : Type 0} (f : A → List B) (xs : List A) (x : A) (y : B) → IsIn x xs → IsIn y (f x) → IsIn y (flat_map f xs)
in_flat f [] x y at k = absurd at
in_flat f (z ∷ xs) x y (inl same) k = in_left y (f z) (flat_map f xs) (subst (λ w. IsIn y (f w)) same k)
in_flat f (z ∷ xs) x y (inr at) k = in_right y (f z) (flat_map f xs) (in_flat f xs x y at k)

-- and what is among it is given by one
from_flat : {A B : Type 0} (f : A → List B) (xs : List A) (y : B) → IsIn y (flat_map f xs) → (x : A) × (IsIn x xs × IsIn y (f x))
from_flat f [] y at = absurd at
from_flat f (x ∷ xs) y at = elim (in_either y (f x) (flat_map f xs) at) [
  | inl here ↦ (x, (inl refl, here))
  | inr later ↦ let r = from_flat f xs y later in (r.0, (inr r.1.0, r.1.1))
]

-- what holds of all holds of each
all_in : {A : Type 0} (P : A → Type 0) (xs : List A) (x : A) → All P xs → IsIn x xs → P x
all_in P [] x h at = absurd at
all_in P (y ∷ xs) x h (inl same) = subst P (sym same) (All-head P y xs h)
all_in P (y ∷ xs) x h (inr at) = all_in P xs x (All-tail P y xs h) at

-- names that are found among others, by a test that computes
pub among_test : (xs ys : List (List ℕ)) → list_all (λ x. list_any (pointwise nat_eq x) ys) xs ≡ true → AreAmong xs ys
among_test [] ys h = tt
among_test (x ∷ xs) ys h =
    let p = and_parts (list_any (pointwise nat_eq x) ys) (list_all (λ z. list_any (pointwise nat_eq z) ys) xs) h in
    (any_in x ys p.0, among_test xs ys p.1)

-- what is found for one of these is among what is found for all
found_in : (f : List ℕ → Option ℕ) (names : List (List ℕ)) (name : List ℕ) (i : ℕ) → IsIn name names → f name ≡ Some i → IsIn i (filter_map f names)
found_in f [] name i at e = absurd at
found_in f (n ∷ names) name i (inl same) e =
    subst (λ (o : Option ℕ). IsIn i (cons_option o (filter_map f names))) (sym (ap f (sym same) ∙ e)) (inl refl)
found_in f (n ∷ names) name i (inr at) e = later (f n) (found_in f names name i at e)
  where
    later : (o : Option ℕ) → IsIn i (filter_map f names) → IsIn i (cons_option o (filter_map f names))
    later None h = h
    later (Some j) h = inr h

-- ---- helpers that are asked for

-- no helper is lost
with_keeps : (nodes : List ℕ) (o : Option ℕ) (i : ℕ) → IsIn i nodes → IsIn i (with_helper nodes o)
with_keeps nodes None i at = at
with_keeps nodes (Some j) i at = by (is_one nodes j)
  where
    by : (b : Bool) → IsIn i (cond b nodes (nodes ++ j ∷ []))
    by true = at
    by false = in_left i nodes (j ∷ []) at

-- a helper that is found is one of them
one_in : (nodes : List ℕ) (i : ℕ) → is_one nodes i ≡ true → IsIn i nodes
one_in [] i h = cc
one_in (n ∷ nodes) i h = let rest = one_in nodes i in grind (arith, nat_tests)

-- the helper more is there
with_has : (nodes : List ℕ) (i : ℕ) → IsIn i (with_helper nodes (Some i))
with_has nodes i = by (is_one nodes i) refl
  where
    by : (b : Bool) → is_one nodes i ≡ b → IsIn i (cond b nodes (nodes ++ i ∷ []))
    by true e = one_in nodes i e
    by false e = in_right i nodes (i ∷ []) (inl refl)

module _ (parts : HelperParts) where
  -- no helper is lost to the binders of names
  names_keep : (names : List (List ℕ)) (nodes : List ℕ) (i : ℕ) → IsIn i nodes → IsIn i (fold (with_binder parts) nodes names)
  names_keep [] nodes i at = at
  names_keep (name ∷ names) nodes i at = names_keep names (with_binder parts nodes name) i (with_keeps nodes (binder parts name) i at)

  -- and the binder of each name is there
  names_have : (names : List (List ℕ)) (nodes : List ℕ) (name : List ℕ) (i : ℕ) → IsIn name names → binder parts name ≡ Some i
      → IsIn i (fold (with_binder parts) nodes names)
  names_have [] nodes name i at e = absurd at
  names_have (n ∷ names) nodes name i (inl same) e =
      names_keep names (with_binder parts nodes n) i
      (subst (λ (o : Option ℕ). IsIn i (with_helper nodes o)) (sym (ap (binder parts) (sym same) ∙ e)) (with_has nodes i))
  names_have (n ∷ names) nodes name i (inr at) e = names_have names (with_binder parts nodes n) name i at e

  -- with those to which words of an item refer
  abbrev more : List ℕ → Item → List ℕ
  more nodes item = with_words parts nodes item.words

  -- no helper is lost to those of items
  items_keep : (items : List Item) (nodes : List ℕ) (i : ℕ) → IsIn i nodes → IsIn i (fold more nodes items)
  items_keep [] nodes i at = at
  items_keep (item ∷ items) nodes i at = items_keep items (more nodes item) i (names_keep (used_in item.words) nodes i at)

  -- and the binder of each name that an item uses is there
  items_have : (items : List Item) (nodes : List ℕ) (item : Item) (name : List ℕ) (i : ℕ) → IsIn item items → IsIn name (used_in item.words)
      → binder parts name ≡ Some i → IsIn i (fold more nodes items)
  items_have [] nodes item name i at k e = absurd at
  items_have (x ∷ items) nodes item name i (inl same) k e =
      items_keep items (more nodes x) i
      (names_have (used_in x.words) nodes name i (subst (λ (y : Item). IsIn name (used_in y.words)) same k) e)
  items_have (x ∷ items) nodes item name i (inr at) k e = items_have items (more nodes x) item name i at k e

-- the key of an item of a helper
abbrev key_of : Role → List ℕ
key_of (Helper key) = key
key_of other = []

-- nothing is not something
pub none_some : {A : Type 0} (x : A) → None ≡ Some x → ⊥
none_some x e = cc

-- the same options hold the same
pub some_is : {A : Type 0} (x y : A) → Some x ≡ Some y → x ≡ y
some_is x y e = ap (λ o. unwrap_or o x) e

-- ---- the items

-- the helper of an entry is there and stands well
abbrev pub IsEntryWell : HelperParts → (ℕ → Bool) → (outer exports : List (List ℕ)) → (List ℕ × List Word) → Type 0
IsEntryWell parts test outer exports e =
    (i : ℕ) × ((helper_item parts i ≡ Some (held_item e)) × IsNode i × StandsWell parts test outer exports (held_item e))

-- the names that items declare
abbrev pub item_names : List Item → List (List ℕ)
item_names items = flat_map (λ (item : Item). bound_in item.words) items

module _ (parts : HelperParts) (needed : List ℕ) (items : List Item) (h : AreHeld parts needed items) where
  -- the names that words of an entry declare
  abbrev entry_names : (List ℕ × List Word) → List (List ℕ)
  entry_names e = bound_in e.1

  -- those of items are those of entries
  names_are : item_names items ≡ flat_map entry_names h.entries
  names_are =
      ap (flat_map (λ (item : Item). bound_in item.words)) h.made
      ∙ flat_map-map (λ (item : Item). bound_in item.words) held_item h.entries

  -- what an entry's key finds
  pub look : (e : List ℕ × List Word) → IsIn e h.entries → look_up (slice_cmp nat_cmp) h.entries e.0 ≡ Some e.1
  look e at = is_found h.entries h.helpers.entries_are.in_order e.0 e.1 at

  -- what holds of each entry's item holds of each item
  pub each_entry : (P : Item → Type 0) → ((e : List ℕ × List Word) → IsIn e h.entries → P (held_item e)) → AllItems P items
  each_entry P give = subst (AllItems P) (sym h.made) (by h.entries give)
    where
      by : (es : List (List ℕ × List Word)) → ((e : List ℕ × List Word) → IsIn e es → P (held_item e)) → AllItems P (map held_item es)
      by [] give = tt
      by (e ∷ es) give = (give e (inl refl), by es (λ x at. give x (inr at)))

  -- what holds of each name that an entry's words bind holds of each name
  pub each_name : (P : List ℕ → Type 0) → ((e : List ℕ × List Word) → IsIn e h.entries → (name : List ℕ) → IsIn name (bound_in e.1) → P name)
      → (name : List ℕ) → IsIn name (item_names items) → P name
  each_name P give name at =
      let r = from_flat entry_names h.entries name (subst (λ (ns : List (List ℕ)). IsIn name ns) names_are at) in
      give r.0 r.1.0 name r.1.1

  -- an entry's names are declared
  entry_bound : (e : List ℕ × List Word) → IsIn e h.entries → (name : List ℕ) → IsIn name (bound_in e.1) → IsIn name (item_names items)
  entry_bound e at name k = subst (λ (ns : List (List ℕ)). IsIn name ns) (sym names_are) (in_flat entry_names h.entries e name at k)

  -- a held helper's names are declared
  held_bound : (i : ℕ) → h.helpers.held i ≡ true → (name : List ℕ) → IsIn name (bound_in (helper_words parts i)) → IsIn name (item_names items)
  held_bound i held name at =
      entry_bound (helper_key i, helper_words parts i)
      (stands h.entries (helper_key i) (helper_words parts i) (h.helpers.entries_are.each i held)) name at

  -- the name of a helper to which an entry's words refer is declared
  referred_bound : (e : List ℕ × List Word) → IsIn e h.entries → (name : List ℕ) (j : ℕ) → IsIn name (used_in e.1) → binder parts name ≡ Some j
      → IsIn name (item_names items)
  referred_bound e at name j used found =
      let node = h.helpers.entries_are.only e.0 e.1 (look e at) in
      let there : IsIn name (used_in (helper_words parts node.0)) = subst (λ (ws : List Word). IsIn name (used_in ws)) node.1.2 used in
      let held = all_in (λ y. h.helpers.held y ≡ true) (referred (binder parts) (helper_words parts node.0)) j
      (h.helpers.least.closed node.0 node.1.0) (found_in (binder parts) (used_in (helper_words parts node.0)) name j there found) in
      held_bound j held name (binds_law parts name j found).1

  module _ (test : ℕ → Bool) (outer exports : List (List ℕ))
      (well : (e : List ℕ × List Word) → IsIn e h.entries → IsEntryWell parts test outer exports e) where
    -- what an item uses is declared
    uses_declared : (e : List ℕ × List Word) → IsIn e h.entries → AreAmong (used_in e.1) (outer ++ item_names items)
    uses_declared e at =
        let names = item_names items in
        among_by (used_in e.1) (outer ++ names) (λ name used. elim ((well e at).1.2.uses name used) [
          | inl (inl own) ↦ in_right name outer names (entry_bound e at name own)
          | inl (inr given) ↦ in_left name outer names given
          | inr found ↦ in_right name outer names (referred_bound e at name found.0 used found.1.0)
        ])

    -- each item belongs into a file that declares what all declare, and has the exports and the host's names
    pub items_belong : (c : Context) → AreAmong (outer ++ item_names items) c.declared → AreAmong helper_hosts c.hosts → AreAmong exports c.exports
        → AllItems (λ item. Belongs c item.words) items
    items_belong c declared hosts given = each_entry (λ item. Belongs c item.words) (λ e at.
        (well e at).1.2.belongs c (among_trans (used_in e.1) (outer ++ item_names items) c.declared (uses_declared e at) declared) hosts given)

    -- none is exported
    pub items_inner : AllItems (λ item. list_any is_export_key item.words ≡ false) items
    items_inner = each_entry (λ item. list_any is_export_key item.words ≡ false) (λ e at. (well e at).1.2.inner)

    -- all take these exports alone
    pub items_take : AllItems (λ item. AreAmong (wasm_in item.words) exports) items
    items_take = each_entry (λ item. AreAmong (wasm_in item.words) exports) (λ e at. (well e at).1.2.takes)

    -- names of two entries are two
    same_entry : (e x : List ℕ × List Word) (name : List ℕ) → IsIn e h.entries → IsIn x h.entries → IsIn name (bound_in e.1) → IsIn name (bound_in x.1)
        → e.0 ≡ x.0
    same_entry e x name at there in_e in_x =
        let a = well e at in
        let b = well x there in
        let same : a.0 ≡ b.0 = once name parts parts a.0 b.0 a.1.1 b.1.1
        (subst (λ (ws : List Word). IsIn name (bound_in ws)) (sym (ap item_words a.1.0)) in_e)
        (subst (λ (ws : List Word). IsIn name (bound_in ws)) (sym (ap item_words b.1.0)) in_x) in
        ap (λ (item : Item). key_of item.role) (some_is (held_item e) (held_item x) (sym a.1.0 ∙ ap (helper_item parts) same ∙ b.1.0))

    -- all names are declared once
    pub items_distinct : AreDistinct (item_names items)
    items_distinct = subst AreDistinct (sym names_are) (by h.entries (λ e at. at) (ascending_distinct (slice_cmp nat_cmp) nat_list_cmp_total _ h.helpers.entries_are.in_order))
      where
        in_keys : (es : List (List ℕ × List Word)) (x : List ℕ × List Word) → IsIn x es → IsIn x.0 (keys_of es)
        in_keys [] x at = at
        in_keys (e ∷ es) x (inl same) = inl (ap (λ (y : List ℕ × List Word). y.0) same)
        in_keys (e ∷ es) x (inr at) = inr (in_keys es x at)

        by : (es : List (List ℕ × List Word)) → ((e : List ℕ × List Word) → IsIn e es → IsIn e h.entries) → AreDistinct (keys_of es)
            → AreDistinct (flat_map entry_names es)
        by [] sub d = tt
        by (e ∷ es) sub d =
            distinct_both (bound_in e.1) (flat_map entry_names es) (well e (sub e (inl refl))).1.2.once_each
            (by es (λ x at. sub x (inr at)) d.1)
            (apart_by (bound_in e.1) (flat_map entry_names es) (λ name here later.
            let r = from_flat entry_names es name later in
            d.0 (subst (λ (k : List ℕ). IsIn k (keys_of es)) (sym (same_entry e r.0 name (sub e (inl refl)) (sub r.0 (inr r.1.0)) here r.1.1)) (in_keys es r.0 r.1.0))))

-- the name of a helper to which a word of the items before refers is declared
pub found_declared : (parts : HelperParts) (before items : List Item) (h : AreAsked parts before items) (item : Item) (name : List ℕ) (j : ℕ)
    → IsIn item before → IsIn name (used_in item.words) → binder parts name ≡ Some j → IsIn name (item_names items)
found_declared parts before items h item name j at used found =
    let root = items_have parts before [] item name j at used found in
    held_bound parts (asked_helpers parts before) items h j
    (all_in (λ y. h.helpers.held y ≡ true) (asked_helpers parts before) j h.helpers.least.roots_in root) name (binds_law parts name j found).1
