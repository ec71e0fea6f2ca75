use Rattle.std.proofs.Common.{◌≡◌, drop, []}
use Rattle.glue_adapters.specs.Stack.{effect, stack_after, leaves}
use Rattle.glue_adapters.proofs.stack.keeps_stack.Given as goal

abbrev pub invariant-loop-instruction : goal.invariant-loop-instruction
invariant-loop-instruction l = leaves l.results (stack_after (effect l.lowered l.environment l.params) l.stack.items (drop l.instruction-index l.code)) ≡ leaves l.results (stack_after (effect l.lowered l.environment l.params) [] l.code)
