use Rattle.std.proofs.Common.{◌≡◌, length}
use Rattle.planned_paths.specs.Paths.{holds}
use Rattle.planned_paths.proofs.below.holds.Given as goal

abbrev pub invariant-scan : goal.invariant-scan
invariant-scan l = holds l.needle l.bytes ≡ holds l.needle l.rest

abbrev pub decreases-scan : goal.decreases-scan
decreases-scan l = length l.rest
