use Rattle.std.proofs.Common.{sym, ap, ◌++◌, ◌∙◌}
use Rattle.std.specs.List.{flat_map}
use Rattle.std.proofs.lemmas.List.Folds.{flat_map-map}
use Rattle.wasm_ops.specs.Numbers.{renumbered_op}
use Rattle.wasm_ops.specs.Spelling.{op_bytes}
use Rattle.wasm_ops.specs.declared.ops.Op.{Op}
use Rattle.wasm_ops.proofs.Written.{walked_more, walked_all}
use Rattle.packed_ops.proofs.Spelled.{spelled_as}
use Rattle.wasm_code.proofs.spelling.write_each_op.Goals as goal

pub loop-bytes-preserved-in-Continue-1 : goal.loop-bytes-preserved-in-Continue-1
loop-bytes-preserved-in-Continue-1 c =
    let f = λ (op : Op). op_bytes (renumbered_op c.args.numbers.now op) in
    let found = c.in-Some.ensures in
    let one = c.in_ok-extend_from_slice-in-Some.ensures.items ∙ ap (λ bytes. c.loop-bytes.out.items ++ bytes) (found.3 ∙ sym (spelled_as c.args.numbers.now found.0 found.2)) in
    walked_more f found.0 c.loop-bytes.walk c.next_spelled.new.self c.args.out.now.items c.loop-bytes.out.items c.extend_from_slice.new.self.items (flat_map f c.args.ops.now) found.1 one c.loop-bytes.invariant

pub returns-in-None-2 : goal.returns-in-None-2
returns-in-None-2 c =
    let f = λ (op : Op). op_bytes (renumbered_op c.args.numbers.now op) in
    let none = sym c.in-None.ensures.0 ∙ (rw c.in-None-2.is at c.in_ok-op-in-None.ensures.ok).0 in
    walked_all f c.loop-bytes.walk c.args.out.now.items c.loop-bytes.out.items (flat_map f c.args.ops.now) none c.loop-bytes.invariant ∙ ap (λ l. c.args.out.now.items ++ l) (sym (flat_map-map op_bytes (renumbered_op c.args.numbers.now) c.args.ops.now))
