use Rattle.std.proofs.Common.{◌≡◌, drop}
use Rattle.glue_shared.specs.Roots.{first_place}
use Rattle.glue_shared.proofs.kept.place_of_first.Given as goal

abbrev pub invariant-loop-memory : goal.invariant-loop-memory
invariant-loop-memory l = record {
  counted : l.place ≡ l.memory-index;
  found : first_place l.place (drop l.memory-index l.memories) ≡ first_place 0 l.memories;
}
