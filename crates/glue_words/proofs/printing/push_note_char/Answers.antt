use Rattle.std.proofs.Common.{arith}
use Rattle.std.proofs.lemmas.Grind.{common_steps}
use Rattle.glue_words.proofs.printing.push_note_char.Goals as goal

pub returns-in-47 : goal.returns-in-47
returns-in-47 c = grind (arith, common_steps)
