use Rattle.std.proofs.Common.{◌≡◌, drop, false}
use Rattle.glue_adapters.specs.Stack.{uses_room}
use Rattle.glue_adapters.proofs.stack.uses_room.Given as goal

abbrev pub invariant-loop-instruction : goal.invariant-loop-instruction
invariant-loop-instruction l = uses_room l.taken (drop l.instruction-index l.code) ≡ uses_room false l.code
