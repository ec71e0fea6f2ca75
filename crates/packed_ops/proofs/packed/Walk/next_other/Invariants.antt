use Rattle.std.proofs.Common.{length}
use Rattle.packed_ops.specs.Packed.{Passes}
use Rattle.packed_ops.proofs.packed.Walk.next_other.Given as goal

abbrev pub invariant-loop-self : goal.invariant-loop-self
invariant-loop-self l = Passes l.fn.self l.self

abbrev pub decreases-loop-self : goal.decreases-loop-self
decreases-loop-self l = length l.self
