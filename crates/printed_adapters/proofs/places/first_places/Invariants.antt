use Rattle.std.proofs.Common.{◌≤◌, length, drop}
use Rattle.printed_adapters.specs.Places.{GivesPlaces}
use Rattle.printed_adapters.proofs.places.first_places.Given as goal

abbrev pub invariant-loop-place : goal.invariant-loop-place
invariant-loop-place l = record {
  gives : GivesPlaces l.index l.place (drop l.place l.ids);
  within : l.place ≤ length l.ids;
}

abbrev pub decreases-loop-place : goal.decreases-loop-place
decreases-loop-place l = l.place
