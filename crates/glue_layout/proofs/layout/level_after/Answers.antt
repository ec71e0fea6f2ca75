use Rattle.std.proofs.Common.{arith}
use Rattle.std.proofs.lemmas.Grind.{common_steps}
use Rattle.glue_layout.specs.Layout.{level_after}
use Rattle.glue_layout.proofs.layout.level_after.Goals as goal

pub returns-then-not-starts_with-clause-value : goal.returns-then-not-starts_with-clause-value
unfolding level_after
returns-then-not-starts_with-clause-value c = grind (arith, common_steps)
