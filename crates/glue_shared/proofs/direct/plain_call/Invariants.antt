use Rattle.std.proofs.Common.{◌≡◌, ◌≤◌, ◌+◌, length}
use Rattle.glue_shared.specs.Names.{plain_call}
use Rattle.glue_shared.proofs.direct.plain_call.Given as goal

abbrev pub invariant-steps : goal.invariant-steps
invariant-steps l = record {
  same : plain_call l.met l.rest ≡ plain_call 0 l.code;
  below : l.met + length l.rest ≤ length l.code;
}

abbrev pub decreases-steps : goal.decreases-steps
decreases-steps l = length l.rest
