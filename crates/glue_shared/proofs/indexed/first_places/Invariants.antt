use Rattle.std.proofs.Common.{◌≤◌, length, drop}
use Rattle.glue_shared.specs.Indexed.{LeadsTo}
use Rattle.glue_shared.proofs.indexed.first_places.Given as goal

abbrev pub invariant-loop-place : goal.invariant-loop-place
invariant-loop-place l = record {
  leads : LeadsTo l.places l.entries (drop l.place l.entries);
  within : l.place ≤ length l.entries;
}

abbrev pub decreases-loop-place : goal.decreases-loop-place
decreases-loop-place l = l.place
