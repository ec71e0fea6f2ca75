use Rattle.std.proofs.Common.{◌≤◌, length, drop}
use Rattle.glue_shared.specs.Indexed.{GivesFirst}
use Rattle.glue_shared.proofs.implementers.first_adapters.Given as goal

abbrev pub invariant-loop-place : goal.invariant-loop-place
invariant-loop-place l = record {
  gives : GivesFirst l.adapters (drop l.place l.pairs);
  within : l.place ≤ length l.pairs;
}

abbrev pub decreases-loop-place : goal.decreases-loop-place
decreases-loop-place l = l.place
