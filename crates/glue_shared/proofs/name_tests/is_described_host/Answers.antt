use Rattle.std.proofs.Common.{arith}
use Rattle.glue_shared.proofs.Sets.{described_any}
use Rattle.glue_shared.proofs.name_tests.is_described_host.Goals as goal

pub returns-then-has_host_import : goal.returns-then-has_host_import
returns-then-has_host_import c = grind (arith, described_any)

pub returns-else-has_host_import : goal.returns-else-has_host_import
returns-else-has_host_import c = grind (arith, described_any)
