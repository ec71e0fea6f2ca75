use Rattle.glue_order.proofs.LongWalks.{AreFar}
use Rattle.glue_order.proofs.walks.far_walks.Given as goal

abbrev pub invariant-loop-left : goal.invariant-loop-left
invariant-loop-left l = AreFar l.steps l.walks.items l.longer.items l.left

abbrev pub decreases-loop-left : goal.decreases-loop-left
decreases-loop-left l = l.left
