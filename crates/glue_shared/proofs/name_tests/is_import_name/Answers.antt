use Rattle.std.proofs.Common.{arith}
use Rattle.glue_shared.proofs.Sets.{import_step}
use Rattle.glue_shared.proofs.name_tests.is_import_name.Goals as goal

pub loop-number-preserved : goal.loop-number-preserved
loop-number-preserved c = grind (arith, import_step)
