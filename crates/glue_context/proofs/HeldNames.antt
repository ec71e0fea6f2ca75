-- The names that the helpers declare which are held for items: each may be bound by a helper there.
use Rattle.std.proofs.Common.{◌≡◌, ℕ, ◌<◌, List, [], ◌∷◌, Bool, true, All, inl, inr, refl}
use Rattle.std.specs.Prelude.{Option, Some, None, nat_lt, ◌&&◌}
use Rattle.std.specs.List.{filter_map, cons_option}
use Rattle.std.proofs.lemmas.Bool.{and_from, and_parts, lt-ltb, ltb-true}
use Rattle.std.proofs.lemmas.List.Elements.{All-nil, All-cons, All-weaker}
use Rattle.values.specs.Lists.{IsIn}
use Rattle.glue_words.specs.declared.item.Item.{Item}
use Rattle.glue_words.specs.Names.{used_in}
use Rattle.helper_table.proofs.Held.{held_item}
use Rattle.helper_table.specs.declared.parts.HelperParts.{HelperParts}
use Rattle.helper_table.specs.Made.{count, helper_item, helper_words, is_there}
use Rattle.helper_table.specs.Closed.{AreAsked, asked_helpers, binder}
use Rattle.helper_table.specs.Laws.{binds_law}
use Rattle.helper_table.proofs.Own.{bound_there, entry_item}
use Rattle.helper_table.proofs.Steps.{all_asked}
use Rattle.helper_table.proofs.HeldItems.{each_name, item_names, look}
use Rattle.helper_table.proofs.ListedNames.{IsListed, there_listed}

-- what is found for names passes a test, where each that is found does
found_pass : (test : ℕ → Bool) (find : List ℕ → Option ℕ) → ((name : List ℕ) (j : ℕ) → find name ≡ Some j → test j ≡ true)
    → (names : List (List ℕ)) → All (λ j. test j ≡ true) (filter_map find names)
found_pass test find give [] = All-nil (λ j. test j ≡ true)
found_pass test find give (name ∷ names) = by (find name) refl (found_pass test find give names)
  where
    by : (o : Option ℕ) → find name ≡ o → All (λ j. test j ≡ true) (filter_map find names)
        → All (λ j. test j ≡ true) (cons_option o (filter_map find names))
    by None e rest = rest
    by (Some j) e rest = All-cons (λ k. test k ≡ true) j (filter_map find names) (give name j e) rest

module _ (parts : HelperParts) (before items : List Item) (h : AreAsked parts before items) where
  -- a number is one of a helper that is there
  abbrev stands : ℕ → Bool
  stands i = nat_lt i (count parts) && is_there (helper_item parts i)

  found_stands : (name : List ℕ) (j : ℕ) → binder parts name ≡ Some j → stands j ≡ true
  found_stands name j found =
      let b = binds_law parts name j found in
      and_from (nat_lt j (count parts)) (is_there (helper_item parts j)) (lt-ltb j (count parts) b.0) (bound_there parts j name b.1)

  -- so is each that is held
  held_stands : (i : ℕ) → h.helpers.held i ≡ true → stands i ≡ true
  held_stands i held =
      h.helpers.least.least stands
      (All-weaker (λ j. (j < count parts) × (is_there (helper_item parts j) ≡ true)) (λ j. stands j ≡ true)
      (λ j p. and_from (nat_lt j (count parts)) (is_there (helper_item parts j)) (lt-ltb j (count parts) p.0) p.1) (asked_helpers parts before)
      (all_asked parts before))
      (λ j s. found_pass stands (binder parts) found_stands (used_in (helper_words parts j))) i held

  pub asked_listed : (name : List ℕ) → IsIn name (item_names items) → IsListed parts name
  asked_listed = each_name parts (asked_helpers parts before) items h (IsListed parts) (λ e at name k.
      let node = h.helpers.entries_are.only e.0 e.1 (look parts (asked_helpers parts before) items h e at) in
      let s = and_parts (nat_lt node.0 (count parts)) (is_there (helper_item parts node.0)) (held_stands node.0 node.1.0) in
      there_listed parts node.0 (held_item e) name (ltb-true node.0 (count parts) s.0)
      (entry_item parts node.0 e.0 e.1 s.1 node.1.1 node.1.2) k)
