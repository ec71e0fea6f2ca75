use Rattle.std.proofs.Common.{◌+◌, drop, map}
use Rattle.glue_binding.specs.Body.{newest_first, stack_of}
use Rattle.glue_operands.specs.Plainly.{plain_operand}
use Rattle.glue_binding.proofs.Stacks.{pieces_next}
use Rattle.glue_operands.proofs.Lists.{drop_next}
use Rattle.glue_binding.proofs.body.pieces_of.Goals as goal

pub loop-step-preserved : goal.loop-step-preserved
loop-step-preserved c =
    let steps = c.args.steps.now in
    let i = c.loop-step.step-index in
    let body = c.loop-step.body in
    let after = c.in_ok-add.ensures.after in
    pieces_next (drop i steps) (drop (i + 1) steps) c.step-item.result (map plain_operand c.loop-step.known) _
    (stack_of body.stack) _ (newest_first body.coming) _ _ _ _
    (drop_next steps i _ c.loop-step-test.true c.step-item.is) c.in_ok-add.ensures.known after.pieces after.stack after.names
    c.loop-step.invariant
