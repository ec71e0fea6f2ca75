use Rattle.std.proofs.Common.{length}
use Rattle.packed_ops.proofs.packed.OpsDebug.fmt.Given as goal

abbrev pub decreases-loop-op : goal.decreases-loop-op
decreases-loop-op g l = length l.walk
