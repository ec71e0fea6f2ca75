use Rattle.std.specs.List.{flat_map}
use Rattle.packed_ops.proofs.Spelled.{other_more, other_all}
use Rattle.wasm_collect.specs.Reach.{body_op_names}
use Rattle.wasm_collect.proofs.Nameless.{body_op_names_none}
use Rattle.wasm_collect.proofs.edges.Edges.push_body.Goals as goal

pub loop-op-preserved : goal.loop-op-preserved
loop-op-preserved c = other_more (body_op_names c.args.self.now) (body_op_names_none c.args.self.now) c.in-Some.op c.loop-op.walk c.next_other.new.self c.args.out.now.items c.loop-op.out.items c.push_body_op.new.out.items (flat_map (body_op_names c.args.self.now) c.args.ops.now) (rw c.in-Some.is at c.in_ok-op.ensures.ok) c.in_ok-push_body_op.ensures c.loop-op.invariant

pub loop-op-preserved-in_ok-push_body_op : goal.loop-op-preserved-in_ok-push_body_op
loop-op-preserved-in_ok-push_body_op c = other_more (body_op_names c.args.self.now) (body_op_names_none c.args.self.now) c.in-Some.op c.loop-op.walk c.next_other.new.self c.args.out.now.items c.loop-op.out.items c.push_body_op.new.out.items (flat_map (body_op_names c.args.self.now) c.args.ops.now) (rw c.in-Some.is at c.in_ok-op.ensures.ok) c.in_ok-push_body_op.ensures c.loop-op.invariant

pub loop-op-preserved-in_ok-push_body_op-2 : goal.loop-op-preserved-in_ok-push_body_op-2
loop-op-preserved-in_ok-push_body_op-2 c = other_more (body_op_names c.args.self.now) (body_op_names_none c.args.self.now) c.in-Some.op c.loop-op.walk c.next_other.new.self c.args.out.now.items c.loop-op.out.items c.push_body_op.new.out.items (flat_map (body_op_names c.args.self.now) c.args.ops.now) (rw c.in-Some.is at c.in_ok-op.ensures.ok) c.in_ok-push_body_op.ensures c.loop-op.invariant

pub loop-op-preserved-in_ok-push_body_op-3 : goal.loop-op-preserved-in_ok-push_body_op-3
loop-op-preserved-in_ok-push_body_op-3 c = other_more (body_op_names c.args.self.now) (body_op_names_none c.args.self.now) c.in-Some.op c.loop-op.walk c.next_other.new.self c.args.out.now.items c.loop-op.out.items c.push_body_op.new.out.items (flat_map (body_op_names c.args.self.now) c.args.ops.now) (rw c.in-Some.is at c.in_ok-op.ensures.ok) c.in_ok-push_body_op.ensures c.loop-op.invariant

pub returns : goal.returns
returns c = other_all (body_op_names c.args.self.now) (body_op_names_none c.args.self.now) c.loop-op.walk _ c.args.out.now.items c.loop-op.out.items (flat_map (body_op_names c.args.self.now) c.args.ops.now) (rw c.in_default.is at c.in_ok-op.ensures.ok) c.loop-op.invariant
