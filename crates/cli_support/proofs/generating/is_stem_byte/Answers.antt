use Rattle.std.proofs.Common.{rules}
use Rattle.cli_support.proofs.generating.is_stem_byte.Goals as goal

pub returns-else-b-eq45 : goal.returns-else-b-eq45
returns-else-b-eq45 c = record { test = search rules }
