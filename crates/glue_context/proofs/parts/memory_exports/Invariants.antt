use Rattle.std.proofs.Common.{◌≡◌, ◌++◌, drop}
use Rattle.glue_context.specs.Parts.{memory_exports}
use Rattle.glue_context.proofs.parts.memory_exports.Given as goal

abbrev pub invariant-loop-place : goal.invariant-loop-place
invariant-loop-place l = l.exports ++ memory_exports l.names l.place (drop l.place l.memories) ≡ memory_exports l.names 0 l.memories
