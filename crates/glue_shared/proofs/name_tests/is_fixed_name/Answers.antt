use Rattle.std.proofs.Common.{arith}
use Rattle.glue_shared.proofs.Sets.{fixed_any}
use Rattle.glue_shared.proofs.name_tests.is_fixed_name.Goals as goal

pub returns-then-is_import_name : goal.returns-then-is_import_name
returns-then-is_import_name c = grind (arith, fixed_any)

pub returns-else-is_import_name : goal.returns-else-is_import_name
returns-else-is_import_name c = grind (arith, fixed_any)
