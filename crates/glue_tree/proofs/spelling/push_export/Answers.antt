use Rattle.std.proofs.Common.{arith}
use Rattle.std.proofs.lemmas.Grind.{common_steps}
use Rattle.glue_tree.proofs.spelling.push_export.Goals as goal

pub returns : goal.returns
returns c = grind (arith, common_steps)
