use Rattle.std.proofs.Common.{arith}
use Rattle.glue_lower.proofs.document.read_text.Goals as goal

pub returns-in-Ok-clause-ok : goal.returns-in-Ok-clause-ok
returns-in-Ok-clause-ok c = grind (arith)

pub returns-in-Ok-clause-failed : goal.returns-in-Ok-clause-failed
returns-in-Ok-clause-failed c = grind (arith)

pub returns-else-is_memory-clause-failed : goal.returns-else-is_memory-clause-failed
returns-else-is_memory-clause-failed c = grind (arith)
