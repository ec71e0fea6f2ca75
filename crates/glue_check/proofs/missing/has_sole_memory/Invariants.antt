use Rattle.std.proofs.Common.{◌≡◌, drop}
use Rattle.glue_check.specs.Missing.{has_sole_memory}
use Rattle.glue_check.proofs.missing.has_sole_memory.Given as goal

abbrev pub invariant-loop-place : goal.invariant-loop-place
invariant-loop-place l = has_sole_memory (drop l.place l.memories) ≡ has_sole_memory l.memories
