use Rattle.std.proofs.Common.{arith}
use Rattle.glue_lower.proofs.lowering.JsonLoweringLowering.lower.Goals as goal

pub returns-clause-ok : goal.returns-clause-ok
returns-clause-ok c = grind (arith)

pub returns-clause-failed : goal.returns-clause-failed
returns-clause-failed c = grind (arith)

pub returns-2-clause-ok : goal.returns-2-clause-ok
returns-2-clause-ok c = grind (arith)

pub returns-2-clause-failed : goal.returns-2-clause-failed
returns-2-clause-failed c = grind (arith)
