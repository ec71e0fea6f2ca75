-- Items that are asked for one behind the other.
use Rattle.std.proofs.Common.{◌≡◌, List, ◌++◌, append_assoc, ap, ◌∙◌}
use Rattle.glue_shared.specs.declared.description.Lowered.{Lowered}

pub joined : {A : Type 0} (old called both : List A) (taken : Lowered → List A) (k l : Lowered) → both ≡ old ++ called → k ≡ l
    → both ++ taken k ≡ old ++ (called ++ taken l)
joined old called both taken k l e same =
    ap (λ (xs : List _). xs ++ taken k) e ∙ append_assoc old called (taken k) ∙ ap (λ (x : Lowered). old ++ (called ++ taken x)) same
