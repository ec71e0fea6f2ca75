-- Steps that are resolved one after another.
use Rattle.std.proofs.Common.{◌≡◌, List, [], ◌∷◌, ◌++◌, append_assoc, refl, ap, sym}
use Rattle.std.specs.Prelude.{Option, Some, None}
use Rattle.glue_steps.specs.declared.step.Step.{Step}
use Rattle.glue_steps.specs.Resolving.{with_step}

-- the steps before those that are still to come
abbrev pub with_front : List Step → Option (List Step) → Option (List Step)
with_front front None = None
with_front front (Some rest) = Some (front ++ rest)

pub one_more : (front : List Step) (step : Step) (rest : Option (List Step)) → with_front front (with_step (Some step) rest) ≡ with_front (front ++ step ∷ []) rest
one_more front step None = refl
one_more front step (Some rest) = ap Some (sym (append_assoc front (step ∷ []) rest))
