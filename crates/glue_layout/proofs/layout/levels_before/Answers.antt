use Rattle.std.proofs.Common.{arith}
use Rattle.std.proofs.lemmas.Grind.{common_steps}
use Rattle.glue_layout.specs.Layout.{columns}
use Rattle.glue_layout.proofs.layout.levels_before.Goals as goal

pub returns-else-starts_with-3 : goal.returns-else-starts_with-3
unfolding columns
returns-else-starts_with-3 c = grind (arith, common_steps)
