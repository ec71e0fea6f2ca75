use Rattle.std.proofs.Common.{◌∙◌}
use Rattle.glue_shared.specs.Roots.{instruction_items}
use Rattle.glue_shared.proofs.Grown.{grown}
use Rattle.glue_shared.proofs.kept.push_code.Goals as goal

pub loop-instruction-preserved : goal.loop-instruction-preserved
loop-instruction-preserved c =
    c.in_ok-push_instruction.ensures.pushed
    ∙ grown instruction_items _ _ c.args.code.now c.loop-instruction.instruction-index c.instruction-item.result c.loop-instruction-test.true c.instruction-item.is c.loop-instruction.invariant
