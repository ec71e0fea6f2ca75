use Rattle.std.proofs.Common.{ℕ, ◌<◌, ◌≢◌, ◌^◌}
use Rattle.helper_table.proofs.reading.find_placed.Given as goal
use Rattle.helper_table.specs.Names.{family_name}

abbrev pub invariant-loop-place : goal.invariant-loop-place
invariant-loop-place l = (p n : ℕ) → p < l.place → n < 2 ^ 32 → l.name ≢ family_name p n
