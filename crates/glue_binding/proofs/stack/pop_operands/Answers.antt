use Rattle.std.proofs.Common.{◌≡◌, ◌-◌, ◌+◌, map, reverse, sym, ap, ◌∙◌, arith}
use Rattle.glue_binding.proofs.Stacks.{popped_operands, without_next}
use Rattle.glue_steps.specs.Stack.{operands, without}
use Rattle.glue_operands.specs.Spelling.{Missing}
use Rattle.glue_operands.specs.Plainly.{plain_operand}
use Rattle.glue_binding.specs.Body.{stack_of}
use Rattle.glue_binding.proofs.stack.pop_operands.Goals as goal

pub loop-preserved : goal.loop-preserved
loop-preserved c = record {
  operands = popped_operands c.loop.counter c.args.n _ _ c.loop.taken.items c.push.new.self.items c.pop.result
      c.loop-test.true c.pop.ensures.below c.pop.ensures.top c.in_ok-push.ensures.items ∙ c.loop.invariant.operands;
  left = ap (without (c.args.n - (c.loop.counter + 1))) c.pop.ensures.below
      ∙ without_next c.loop.counter c.args.n _ c.loop-test.true ∙ c.loop.invariant.left;
}

pub returns-clause-operands : goal.returns-clause-operands
returns-clause-operands c =
    let none : c.args.n - c.loop.counter ≡ 0 = omega arith in
    ap (map plain_operand) c.reverse.ensures.items ∙ ap
    (λ k. operands Missing k (stack_of c.loop.stack) (map plain_operand (reverse c.loop.taken.items))) (sym none)
    ∙ c.loop.invariant.operands

pub returns-clause-left : goal.returns-clause-left
returns-clause-left c =
    let none : c.args.n - c.loop.counter ≡ 0 = omega arith in
    ap (λ k. without k (stack_of c.loop.stack)) (sym none) ∙ c.loop.invariant.left
