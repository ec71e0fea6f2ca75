-- Grouping definitions into runs, one behind the other.
use Rattle.std.proofs.Common.{◌≡◌, List, [], ◌∷◌, ◌++◌, true, false, refl, sym, ap, ◌∙◌, append-nil, append_assoc}
use Rattle.std.specs.List.{flat_map}
use Rattle.glue_words.specs.declared.item.Item.{Item}
use Rattle.glue_exports.specs.Kept.{continues, runs_behind}
use Rattle.glue_exports.specs.Tree.{Entry}

-- a definition under the root of the run goes into it
pub run_longer : (run es : List Entry) (e : Entry) → continues run e ≡ true → runs_behind run (e ∷ es) ≡ runs_behind (run ++ e ∷ []) es
run_longer [] es e h = cc
run_longer (first ∷ more) es e h = rw h refl

module _ (f : List Entry → List Item) (none : f [] ≡ []) where
  -- a definition under another root begins a run
  pub run_new : (run es : List Entry) (e : Entry) → continues run e ≡ false
      → flat_map f (runs_behind run (e ∷ es)) ≡ f run ++ flat_map f (runs_behind (e ∷ []) es)
  run_new [] es e h = rw none refl
  run_new (first ∷ more) es e h = rw h refl

  -- the last run
  pub run_last : (run : List Entry) → flat_map f (runs_behind run []) ≡ f run
  run_last [] = sym none
  run_last (first ∷ more) = append-nil (f (first ∷ more))

  -- one more definition under the root of the run
  pub next_longer : (items all : List Item) (run es : List Entry) (e : Entry) → continues run e ≡ true
      → items ++ flat_map f (runs_behind run (e ∷ es)) ≡ all → items ++ flat_map f (runs_behind (run ++ e ∷ []) es) ≡ all
  next_longer items all run es e h so_far =
      ap (λ (rs : List (List Entry)). items ++ flat_map f rs) (sym (run_longer run es e h)) ∙ so_far

  -- one more definition under another root, where the items of the run are put behind the others
  pub next_new : (items all : List Item) (run es : List Entry) (e : Entry) → continues run e ≡ false
      → items ++ flat_map f (runs_behind run (e ∷ es)) ≡ all → (items ++ f run) ++ flat_map f (runs_behind (e ∷ []) es) ≡ all
  next_new items all run es e h so_far =
      append_assoc items (f run) (flat_map f (runs_behind (e ∷ []) es))
      ∙ ap (λ (is : List Item). items ++ is) (sym (run_new run es e h)) ∙ so_far
