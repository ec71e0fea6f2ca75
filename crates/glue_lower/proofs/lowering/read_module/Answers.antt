use Rattle.std.proofs.Common.{arith}
use Rattle.glue_lower.specs.Lowering.{lowered_of}
use Rattle.glue_lower.proofs.lowering.read_module.Goals as goal

pub returns-in-Ok-clause-ok : goal.returns-in-Ok-clause-ok
unfolding lowered_of
returns-in-Ok-clause-ok c = grind (arith)

pub returns-in-Err-clause-failed : goal.returns-in-Err-clause-failed
unfolding lowered_of
returns-in-Err-clause-failed c = grind (arith)
