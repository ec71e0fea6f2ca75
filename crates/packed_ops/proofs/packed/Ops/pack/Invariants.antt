use Rattle.std.proofs.Common.{◌≡◌, take}
use Rattle.packed_ops.proofs.packed.Ops.pack.Given as goal

abbrev pub invariant-loop-op : goal.invariant-loop-op
invariant-loop-op l = l.ops ≡ take l.op-index l.list
