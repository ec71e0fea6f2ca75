use Rattle.std.proofs.Common.{arith}
use Rattle.glue_shared.proofs.Sets.{hosts_any}
use Rattle.glue_shared.proofs.name_tests.is_host_name.Goals as goal

pub returns-then-is_described_host : goal.returns-then-is_described_host
returns-then-is_described_host c = grind (arith, hosts_any)

pub returns-else-is_described_host : goal.returns-else-is_described_host
returns-else-is_described_host c = grind (arith, hosts_any)
