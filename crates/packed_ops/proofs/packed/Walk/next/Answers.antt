use Rattle.packed_ops.proofs.PackedAgain.{walked}
use Rattle.packed_ops.proofs.packed.Walk.next.Goals as goal

pub invariant_of-self : goal.invariant_of-self
invariant_of-self c = (walked (record { place = 0; bytes = c.self.inside.bytes.now }) c.read_packed.new.reader (record { place = 0; bytes = c.left-self-inside.result.now }) c.in-Ok.op c.self.invariant (rw c.new-reader.ensures at c.in-Ok.ensures) c.left-self-inside.ensures).1

pub returns-in-Ok-clause-ok : goal.returns-in-Ok-clause-ok
returns-in-Ok-clause-ok c = rw (← c.self.view_is) (walked (record { place = 0; bytes = c.self.inside.bytes.now }) c.read_packed.new.reader (record { place = 0; bytes = c.left-self-inside.result.now }) c.in-Ok.op c.self.invariant (rw c.new-reader.ensures at c.in-Ok.ensures) c.left-self-inside.ensures).0
