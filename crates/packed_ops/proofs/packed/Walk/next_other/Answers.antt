use Rattle.packed_ops.proofs.Spelled.{passes_more}
use Rattle.packed_ops.proofs.packed.Walk.next_other.Goals as goal

pub loop-self-preserved : goal.loop-self-preserved
loop-self-preserved c =
    let found = c.in-Some.ensures in
    passes_more _ _ _ found.0 c.loop-self.invariant found.1 found.2
