use Rattle.packed_ops.proofs.Spelled.{other_more, other_all}
use Rattle.wasm_collect.specs.Reach.{op_names, ops_names}
use Rattle.wasm_collect.proofs.Nameless.{op_names_none}
use Rattle.wasm_collect.proofs.naming.push_ops.Goals as goal

pub loop-op-preserved : goal.loop-op-preserved
loop-op-preserved c = other_more op_names op_names_none c.in-Some.op c.loop-op.walk c.next_other.new.self c.args.out.now.items c.loop-op.out.items c.push_op.new.out.items (ops_names c.args.ops.now) (rw c.in-Some.is at c.in_ok-op.ensures.ok) c.in_ok-push_op.ensures c.loop-op.invariant

pub loop-op-preserved-in_ok-push_op : goal.loop-op-preserved-in_ok-push_op
loop-op-preserved-in_ok-push_op c = other_more op_names op_names_none c.in-Some.op c.loop-op.walk c.next_other.new.self c.args.out.now.items c.loop-op.out.items c.push_op.new.out.items (ops_names c.args.ops.now) (rw c.in-Some.is at c.in_ok-op.ensures.ok) c.in_ok-push_op.ensures c.loop-op.invariant

pub loop-op-preserved-in_ok-push_op-2 : goal.loop-op-preserved-in_ok-push_op-2
loop-op-preserved-in_ok-push_op-2 c = other_more op_names op_names_none c.in-Some.op c.loop-op.walk c.next_other.new.self c.args.out.now.items c.loop-op.out.items c.push_op.new.out.items (ops_names c.args.ops.now) (rw c.in-Some.is at c.in_ok-op.ensures.ok) c.in_ok-push_op.ensures c.loop-op.invariant

pub loop-op-preserved-in_ok-push_op-3 : goal.loop-op-preserved-in_ok-push_op-3
loop-op-preserved-in_ok-push_op-3 c = other_more op_names op_names_none c.in-Some.op c.loop-op.walk c.next_other.new.self c.args.out.now.items c.loop-op.out.items c.push_op.new.out.items (ops_names c.args.ops.now) (rw c.in-Some.is at c.in_ok-op.ensures.ok) c.in_ok-push_op.ensures c.loop-op.invariant

pub returns : goal.returns
returns c = other_all op_names op_names_none c.loop-op.walk _ c.args.out.now.items c.loop-op.out.items (ops_names c.args.ops.now) (rw c.in_default.is at c.in_ok-op.ensures.ok) c.loop-op.invariant
