use Rattle.std.proofs.Common.{arith}
use Rattle.std.proofs.lemmas.Grind.{common_steps}
use Rattle.glue_words.specs.Ident.{is_ident}
use Rattle.glue_words.proofs.ident.is_valid_ident.Goals as goal

pub returns-then-not-is_reserved : goal.returns-then-not-is_reserved
unfolding is_ident
returns-then-not-is_reserved c = grind (arith, common_steps)
