use Rattle.std.proofs.Common.{◌≡◌, ◌-◌, ◌+◌, ◌++◌, sym, ap, ◌∙◌, arith, append-nil}
use Rattle.glue_binding.proofs.Stacks.{without_next}
use Rattle.glue_binding.proofs.Coming.{next_taken}
use Rattle.glue_steps.specs.Stack.{without}
use Rattle.glue_binding.specs.Spelling.{next_names}
use Rattle.glue_binding.specs.Body.{newest_first}
use Rattle.glue_binding.proofs.stack.next_names.Goals as goal

pub loop-preserved : goal.loop-preserved
loop-preserved c = record {
  names = next_taken c.loop.counter c.args.count c.loop.names _ _ _ _ c.loop-test.true c.next_name.ensures.left
      c.next_name.ensures.name c.in_ok-push.ensures.ok ∙ c.loop.invariant.names;
  left = ap (without (c.args.count - (c.loop.counter + 1))) c.next_name.ensures.left
      ∙ without_next c.loop.counter c.args.count _ c.loop-test.true ∙ c.loop.invariant.left;
}

pub returns-clause-names : goal.returns-clause-names
returns-clause-names c =
    let none : c.args.count - c.loop.counter ≡ 0 = omega arith in
    sym (append-nil c.loop.names) ∙ ap (λ k. c.loop.names ++ next_names k (newest_first c.loop.coming)) (sym none) ∙ c.loop.invariant.names

pub returns-clause-left : goal.returns-clause-left
returns-clause-left c =
    let none : c.args.count - c.loop.counter ≡ 0 = omega arith in
    ap (λ k. without k (newest_first c.loop.coming)) (sym none) ∙ c.loop.invariant.left
