use Rattle.std.proofs.Common.{◌≡◌, ◌-◌, [], map, reverse}
use Rattle.glue_steps.specs.Stack.{operands, without}
use Rattle.glue_operands.specs.Spelling.{Missing}
use Rattle.glue_operands.specs.Plainly.{plain_operand}
use Rattle.glue_binding.specs.Body.{stack_of}
use Rattle.glue_binding.proofs.stack.pop_operands.Given as goal

abbrev pub invariant-loop : goal.invariant-loop
invariant-loop l = record {
  operands : operands Missing (l.n - l.counter) (stack_of l.stack) (map plain_operand (reverse l.taken.items))
      ≡ operands Missing l.n (stack_of l.initial.stack) [];
  left : without (l.n - l.counter) (stack_of l.stack) ≡ without l.n (stack_of l.initial.stack);
}
