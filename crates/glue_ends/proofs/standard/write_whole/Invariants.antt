use Rattle.std.proofs.Common.{length}
use Rattle.glue_ends.proofs.Writing.{AppendsUpTo}
use Rattle.glue_ends.proofs.standard.write_whole.Given as goal

abbrev pub decreases-loop-rest : goal.decreases-loop-rest
decreases-loop-rest g l = length l.rest

abbrev pub invariant-loop-rest : goal.invariant-loop-rest
invariant-loop-rest g l = AppendsUpTo (g.W.Write.contents l.fn.inner) (g.W.Write.contents l.inner) l.fn.bytes l.rest
