-- What stands after a setter, which answers the generator where it doesn't refuse.
use Rattle.std.specs.Prelude.{◌≡◌, Result, Ok, Err}
use Rattle.std.specs.Borrow.{RestsIfErr, MutBor, Fml}
use Rattle.cli_support.specs.Configured.{Configured}
use Rattle.cli_support.specs.declared.held.Held.{Held}
use Rattle.cli_support.specs.contracts.bindgen.Bindgen.{the_row}

-- where the setter refuses, the generator ends as it was
abbrev pub Rests : {E : Type 0} → MutBor Configured → Result (MutBor Configured) E → Fml
Rests s r = RestsIfErr the_row s (λ b. b.ghost_name) r (λ n. n ≡ s.now)

-- the same, where the answer holds the generator
abbrev pub HeldRests : {E : Type 0} → MutBor Configured → Result Held E → Fml
HeldRests s r = RestsIfErr the_row s (λ b. b.at.ghost_name) r (λ n. n ≡ s.now)

-- the generator that the answer holds
abbrev pub released : {E : Type 0} → Result Held E → Result (MutBor Configured) E
released (Ok h) = Ok h.at
released (Err e) = Err e
