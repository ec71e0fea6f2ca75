use Rattle.std.proofs.Common.{arith}
use Rattle.glue_shared.proofs.Sets.{helpers_any}
use Rattle.glue_shared.proofs.name_tests.is_helper_name.Goals as goal

pub returns-then-is_placed : goal.returns-then-is_placed
returns-then-is_placed c = grind (arith, helpers_any)

pub returns-else-is_placed : goal.returns-else-is_placed
returns-else-is_placed c = grind (arith, helpers_any)
