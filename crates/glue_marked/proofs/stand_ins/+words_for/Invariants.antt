use Rattle.std.proofs.Common.{length}
use Rattle.glue_marked.proofs.stand_ins.+words_for.Given as goal

abbrev pub decreases-words_for : goal.decreases-words_for
decreases-words_for l = length l.spreads.now
