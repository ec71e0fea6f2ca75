use Rattle.std.proofs.Common.{◌∙◌}
use Rattle.glue_steps.specs.Needed.{needed_items}
use Rattle.taken_items.specs.Asked.{called_item}
use Rattle.taken_items.proofs.Joined.{joined}
use Rattle.taken_items.proofs.asked.push_asked.Goals as goal

pub returns : goal.returns
returns c = record {
  pushed = c.in_ok-push_needed.ensures.pushed
      ∙ joined c.args.asked.now (called_item c.args.indexed.now c.args.instruction.now) _
      (λ l. needed_items c.args.settings.now l c.args.instruction.now) _ _ c.in_ok-push_called.ensures.pushed c.lowered.ensures.same;
}
