use Rattle.std.proofs.Common.{arith}
use Rattle.std.proofs.lemmas.Grind.{common_steps}
use Rattle.glue_layout.specs.Layout.{level_at}
use Rattle.glue_layout.proofs.layout.level_at.Goals as goal

pub returns-then-starts_with-clause-value : goal.returns-then-starts_with-clause-value
unfolding level_at
returns-then-starts_with-clause-value c = grind (arith, common_steps)
