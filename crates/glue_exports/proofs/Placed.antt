-- Putting definitions at their paths, one behind the other.
use Rattle.std.proofs.Common.{◌≡◌, ℕ, ◌+◌, ◌<◌, List, [], ◌∷◌, ◌++◌, Bool, take, drop, get_or, length, sym, ap, subst, ◌∙◌, map, append_assoc}
use Rattle.std.proofs.lemmas.List.{take_more, at_drop_more}
use Rattle.glue_words.specs.declared.item.Item.{Item}
use Rattle.glue_words.specs.declared.word.Word.{Word}
use Rattle.glue_shared.specs.Paths.{Path}
use Rattle.glue_targets.specs.PublicTree.{fronts}
use Rattle.glue_exports.specs.Fronts.{AreAdded, AreKeys}
use Rattle.glue_exports.specs.Kept.{items_placed}
use Rattle.glue_exports.specs.Printed.{assign_item, inner_item, is_placed, place_items, places_from}
use Rattle.glue_exports.specs.Tree.{Entry}
use Rattle.glue_exports.proofs.Sets.{lacking_are, path_put}

module _ (hosts : List (List ℕ)) (root : Word) (operator : ℕ) where
  -- a set of the paths that have an object tells what to put
  pub placed_is : (set : List (Path × Bool)) (before : List Entry) (e : Entry) → AreKeys set (is_placed before)
      → items_placed hosts root operator set e ≡ place_items hosts root operator before e
  placed_is set before e kept =
      ap (λ (ps : List Path). map (inner_item root operator) ps ++ assign_item hosts root e ∷ []) (lacking_are set before e.0 kept)

  -- one more definition
  pub place_next : (set new : List (Path × Bool)) (items made all : List Item) (es : List Entry) (i : ℕ) (e : Entry)
      → i < length es → e ≡ get_or es i e → AreKeys set (is_placed (take i es)) → AreAdded set (e.0 ∷ fronts e.0) new
      → made ≡ items_placed hosts root operator set e
      → items ++ places_from hosts root operator (take i es) (drop i es) ≡ all
      → AreKeys new (is_placed (take (i + 1) es))
      × ((items ++ made) ++ places_from hosts root operator (take (i + 1) es) (drop (i + 1) es) ≡ all)
  place_next set new items made all es i e within here kept added are so_far =
      let from = places_from hosts root operator in
      let grown : take i es ++ e ∷ [] ≡ take (i + 1) es =
      ap (λ (x : Entry). take i es ++ x ∷ []) here ∙ sym (take_more es i e within) in
      let left : from (take i es) (drop i es) ≡ made ++ from (take (i + 1) es) (drop (i + 1) es) =
      at_drop_more (from (take i es)) es i e within
      ∙ ap (λ (x : Entry). from (take i es) (x ∷ drop (i + 1) es)) (sym here)
      ∙ ap (λ (ds : List Entry). place_items hosts root operator (take i es) e ++ from ds (drop (i + 1) es)) grown
      ∙ ap (λ (xs : List Item). xs ++ from (take (i + 1) es) (drop (i + 1) es)) (sym (are ∙ placed_is set (take i es) e kept)) in (
        subst (λ (ds : List Entry). AreKeys new (is_placed ds)) grown (path_put set new (take i es) e kept added),
        append_assoc items made (from (take (i + 1) es) (drop (i + 1) es)) ∙ ap (λ (xs : List Item). items ++ xs) (sym left) ∙ so_far,
      )
