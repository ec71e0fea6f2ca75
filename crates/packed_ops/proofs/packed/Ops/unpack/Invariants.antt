use Rattle.std.proofs.Common.{◌≡◌, ◌++◌, length}
use Rattle.packed_ops.proofs.packed.Ops.unpack.Given as goal

abbrev pub invariant-loop-list : goal.invariant-loop-list
invariant-loop-list l = l.list ++ l.walk ≡ l.self

abbrev pub decreases-loop-list : goal.decreases-loop-list
decreases-loop-list l = length l.walk
