use Rattle.std.proofs.Common.{arith}
use Rattle.glue_shared.proofs.Texts.{joined_bytes}
use Rattle.glue_shared.proofs.name_tests.is_numbered.Goals as goal

pub returns-then-eq : goal.returns-then-eq
returns-then-eq c = grind (arith, joined_bytes)

pub returns-else-eq : goal.returns-else-eq
returns-else-eq c = grind (arith, joined_bytes)
