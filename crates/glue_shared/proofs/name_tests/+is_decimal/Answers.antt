use Rattle.std.proofs.Common.{arith}
use Rattle.glue_shared.proofs.Texts.{one_digit}
use Rattle.glue_shared.proofs.name_tests.+is_decimal.Goals as goal

pub returns-then-is_empty : goal.returns-then-is_empty
returns-then-is_empty c = grind (arith, one_digit)

pub returns-else-is_empty : goal.returns-else-is_empty
returns-else-is_empty c = grind (arith, one_digit)
