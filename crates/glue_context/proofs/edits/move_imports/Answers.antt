use Rattle.glue_context.proofs.Common.{arith, common_steps, filter_map-append}
use Rattle.glue_context.proofs.edits.move_imports.Goals as goal

pub loop-place-preserved : goal.loop-place-preserved
loop-place-preserved c = grind (arith, common_steps, filter_map-append)
