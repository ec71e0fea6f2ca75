use Rattle.std.proofs.Common.{◌≡◌, ◌++◌, length}
use Rattle.wasm_collect.specs.Reach.{ops_names}
use Rattle.wasm_collect.proofs.naming.push_ops.Given as goal

abbrev pub invariant-loop-op : goal.invariant-loop-op
invariant-loop-op l = l.out.items ++ ops_names l.walk ≡ l.fn.out.items ++ ops_names l.ops

abbrev pub decreases-loop-op : goal.decreases-loop-op
decreases-loop-op l = length l.walk
