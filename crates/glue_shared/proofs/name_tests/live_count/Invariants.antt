use Rattle.std.proofs.Common.{◌≡◌, take}
use Rattle.glue_shared.specs.Names as spec
use Rattle.glue_shared.proofs.name_tests.live_count.Given as goal

abbrev pub invariant-loop-entry : goal.invariant-loop-entry
invariant-loop-entry g l = l.count ≡ spec.live_count (take l.entry-index l.entries)
