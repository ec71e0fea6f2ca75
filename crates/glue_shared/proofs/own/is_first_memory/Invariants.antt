use Rattle.std.proofs.Common.{◌≡◌, drop}
use Rattle.glue_shared.specs.Names.{is_first_of}
use Rattle.glue_shared.proofs.own.is_first_memory.Given as goal

abbrev pub invariant-loop-memory : goal.invariant-loop-memory
invariant-loop-memory l = is_first_of l.place.0 (drop l.memory-index l.memories) ≡ is_first_of l.place.0 l.memories
