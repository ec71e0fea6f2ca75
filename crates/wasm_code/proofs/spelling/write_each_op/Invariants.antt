use Rattle.std.proofs.Common.{◌≡◌, ◌++◌, length}
use Rattle.std.specs.List.{flat_map}
use Rattle.wasm_ops.specs.Numbers.{renumbered_op}
use Rattle.wasm_ops.specs.Spelling.{op_bytes}
use Rattle.wasm_code.proofs.spelling.write_each_op.Given as goal

abbrev pub invariant-loop-bytes : goal.invariant-loop-bytes
invariant-loop-bytes l = l.out.items ++ flat_map (λ op. op_bytes (renumbered_op l.numbers op)) l.walk ≡ l.fn.out.items ++ flat_map (λ op. op_bytes (renumbered_op l.numbers op)) l.ops

abbrev pub decreases-loop-bytes : goal.decreases-loop-bytes
decreases-loop-bytes l = length l.walk
