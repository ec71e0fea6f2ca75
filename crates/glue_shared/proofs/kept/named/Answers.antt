use Rattle.std.proofs.Common.{arith}
use Rattle.std.proofs.lemmas.Grind.{common_steps}
use Rattle.glue_shared.specs.Roots.{named_items}
use Rattle.glue_shared.proofs.kept.named.Goals as goal

pub returns : goal.returns
unfolding named_items
returns c = grind (arith, common_steps)
