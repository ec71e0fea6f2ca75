-- The items of a tree publish exactly what is defined in it.
use Rattle.std.proofs.Common.{◌≡◌, ℕ, Bool, true, false, not, ◌&&◌, cond, true≢false, List, [], ◌∷◌, ◌++◌, filter, refl, sym, ap, subst, ◌∙◌, inl, inr}
use Rattle.std.proofs.lemmas.Bool.{or_parts, not-false}
use Rattle.std.specs.List.{list_any}
use Rattle.std.specs.Map.{keys_of}
use Rattle.values.specs.Lists.{IsIn}
use Rattle.glue_shared.specs.Paths.{Path}
use Rattle.glue_targets.specs.PublicTree.{PublicPair, fronts}
use Rattle.glue_targets.specs.Published.{published_pairs}
use Rattle.glue_exports.specs.Fronts.{runs_through}
use Rattle.glue_exports.specs.Tree.{Entry, IsTree, has_none, is_reexport, is_declared}
use Rattle.glue_exports.specs.Printed.{RootNames, is_at_top, is_shown, tree_items}
use Rattle.glue_exports.specs.Sound.{IsSound, AreSound, ArePublished, entry_pairs, own_pairs}
use Rattle.glue_exports.proofs.Joined.{from_filter, any_in, in_map}
use Rattle.glue_exports.proofs.Order.{in_runs}
use Rattle.glue_exports.proofs.Sorted.{filter_ordered, entry_found}
use Rattle.glue_exports.proofs.Pairs.{Publishes}
use Rattle.glue_exports.proofs.RootByRoot.{IsFit, fit_published}

pub each_sound : (tree : List Entry) (e : Entry) → AreSound tree → IsIn e tree → IsSound e.1
each_sound [] e h i = absurd i
each_sound (f ∷ tree) e h (inl same) = subst (λ (x : Entry). IsSound x.1) (sym same) h.0
each_sound (f ∷ tree) e h (inr i) = each_sound tree e h.1 i

pub each_rooted : (tree : List Entry) (e : Entry) → list_any has_none (keys_of tree) ≡ false → IsIn e tree → e.0 ≡ [] → ⊥
each_rooted [] e h i none = i
each_rooted (f ∷ tree) e h (inl same) none =
    true≢false (sym (ap has_none (ap (λ (x : Entry). x.0) (sym same) ∙ none)) ∙ (or_parts (has_none f.0) (list_any has_none (keys_of tree)) h).0)
each_rooted (f ∷ tree) e h (inr i) none = each_rooted tree e (or_parts (has_none f.0) (list_any has_none (keys_of tree)) h).1 i none

module _ (tree : List Entry) (t : IsTree tree) where
  pub none_runs : (e f : Entry) → IsIn e tree → IsIn f tree → is_reexport e.1 ≡ false → IsIn e.0 (fronts f.0) → ⊥
  none_runs e f i k declared runs =
      let through = any_in (λ (path : Path). runs_through path e.0) f.0 (keys_of tree) (in_map (λ (x : Entry). x.0) f tree k) (in_runs f.0 e.0 runs) in
      true≢false (sym through ∙ t.apart e.0 (ap is_declared (entry_found tree e t.ordered i) ∙ ap not declared))

  shown_fit : AreSound tree → IsFit (filter is_shown tree)
  shown_fit sound = record {
    ordered = filter_ordered is_shown tree t.ordered;
    sound = λ e i. each_sound tree e sound (from_filter is_shown e tree i).0;
    apart = λ e f i k. none_runs e f (from_filter is_shown e tree i).0 (from_filter is_shown f tree k).0;
    rooted = λ e i. each_rooted tree e t.rooted (from_filter is_shown e tree i).0;
    shown = λ e i. (from_filter is_shown e tree i).1;
  }

-- what isn't printed publishes nothing
hidden : (reexport private : Bool) → not (reexport && private) ≡ false → private ≡ true
hidden true private h = not-false private h
hidden false private h = absurd (true≢false h)

shown_case : (e : Entry) (es : List Entry) (b : Bool) → is_shown e ≡ b → own_pairs (cond b (e ∷ es) es) ≡ entry_pairs e ++ own_pairs es
shown_case e es true h = refl
shown_case e es false h =
    ap (λ (b : Bool). cond b [] ((e.0, e.1.thing) ∷ []) ++ own_pairs es) (sym (hidden (is_reexport e.1) (e.1.private && is_at_top e.0) h))

shown_pairs : (tree : List Entry) → own_pairs (filter is_shown tree) ≡ own_pairs tree
shown_pairs [] = refl
shown_pairs (e ∷ tree) =
    shown_case e (filter is_shown tree) (is_shown e) refl ∙ ap (λ (ps : List PublicPair). entry_pairs e ++ ps) (shown_pairs tree)

-- the items of a tree publish its definitions and their namespaces' objects, each once
pub published : (roots : RootNames) (hosts : List (List ℕ)) (tree : List Entry) → IsTree tree → AreSound tree → ArePublished tree (tree_items roots hosts tree)
published roots hosts tree t sound =
    let all : Publishes (published_pairs (tree_items roots hosts tree)) (own_pairs tree) =
    subst (λ (ps : List PublicPair). Publishes (published_pairs (tree_items roots hosts tree)) ps) (shown_pairs tree)
    (fit_published roots hosts (filter is_shown tree) (shown_fit tree t sound)) in
    record { only = all.only; all = all.all; once = all.once }
