use Rattle.std.proofs.Common.{arith}
use Rattle.glue_lower.proofs.Utf8.{is_utf8_true, is_utf8_false}
use Rattle.glue_lower.proofs.document.read_description.Goals as goal

pub returns-in-Ok-clause-ok : goal.returns-in-Ok-clause-ok
returns-in-Ok-clause-ok c = grind (arith, is_utf8_true, is_utf8_false)

pub returns-in-Ok-clause-failed : goal.returns-in-Ok-clause-failed
returns-in-Ok-clause-failed c = grind (arith, is_utf8_true, is_utf8_false)

pub returns-in-Err-clause-failed : goal.returns-in-Err-clause-failed
returns-in-Err-clause-failed c = grind (arith, is_utf8_true, is_utf8_false)
