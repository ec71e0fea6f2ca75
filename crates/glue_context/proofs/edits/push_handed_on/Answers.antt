use Rattle.glue_context.proofs.Common.{arith, common_steps, filter_map-append}
use Rattle.glue_context.proofs.edits.push_handed_on.Goals as goal

pub loop-import-preserved : goal.loop-import-preserved
loop-import-preserved c = grind (arith, common_steps, filter_map-append)
