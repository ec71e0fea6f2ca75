use Rattle.std.proofs.Common.{arith}
use Rattle.glue_lower.proofs.lowering.read_customs.Goals as goal

pub returns-in-Some-clause-ok : goal.returns-in-Some-clause-ok
returns-in-Some-clause-ok c = grind (arith)

pub returns-in-Some-clause-failed : goal.returns-in-Some-clause-failed
returns-in-Some-clause-failed c = grind (arith)

pub returns-in-None-clause-ok : goal.returns-in-None-clause-ok
returns-in-None-clause-ok c = grind (arith)

pub returns-in_err-section-clause-failed : goal.returns-in_err-section-clause-failed
returns-in_err-section-clause-failed c = grind (arith)
