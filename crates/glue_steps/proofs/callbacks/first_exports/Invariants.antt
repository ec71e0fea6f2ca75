use Rattle.std.proofs.Common.{◌≤◌, length, drop}
use Rattle.glue_steps.specs.Callbacks.{GivesExport}
use Rattle.glue_steps.proofs.callbacks.first_exports.Given as goal

abbrev pub invariant-loop-place : goal.invariant-loop-place
invariant-loop-place l = record {
  gives : GivesExport l.exports (drop l.place l.entries);
  within : l.place ≤ length l.entries;
}

abbrev pub decreases-loop-place : goal.decreases-loop-place
decreases-loop-place l = l.place
