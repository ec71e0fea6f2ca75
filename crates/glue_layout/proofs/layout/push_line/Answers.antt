use Rattle.std.proofs.Common.{arith}
use Rattle.std.proofs.lemmas.Grind.{common_steps}
use Rattle.glue_layout.specs.Layout.{laid_line}
use Rattle.glue_layout.proofs.layout.push_line.Goals as goal

pub returns : goal.returns
unfolding laid_line
returns c = grind (arith, common_steps)
