use Rattle.std.proofs.Common.{length}
use Rattle.glue_marked.proofs.stand_ins.+name_for.Given as goal

abbrev pub decreases-name_for : goal.decreases-name_for
decreases-name_for l = length l.names.now
