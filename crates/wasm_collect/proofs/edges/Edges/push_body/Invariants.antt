use Rattle.std.proofs.Common.{◌≡◌, ◌++◌, length}
use Rattle.std.specs.List.{flat_map}
use Rattle.wasm_collect.specs.Reach.{body_op_names}
use Rattle.wasm_collect.proofs.edges.Edges.push_body.Given as goal

abbrev pub invariant-loop-op : goal.invariant-loop-op
invariant-loop-op l = l.out.items ++ flat_map (body_op_names l.self) l.walk ≡ l.fn.out.items ++ flat_map (body_op_names l.self) l.ops

abbrev pub decreases-loop-op : goal.decreases-loop-op
decreases-loop-op l = length l.walk
