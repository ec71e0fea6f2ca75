use Rattle.std.proofs.Common.{◌≡◌, ◌++◌, take}
use Rattle.std.specs.List.{flat_map}
use Rattle.wasm_ops.specs.Numbers.{renumbered_catch}
use Rattle.wasm_ops.specs.Spelling.{catch_bytes}
use Rattle.wasm_ops.proofs.spelling.write_each_catch.Given as goal

abbrev pub invariant-loop-clause : goal.invariant-loop-clause
invariant-loop-clause l = l.out.items ≡ l.fn.out.items ++ flat_map (λ clause. catch_bytes (renumbered_catch l.numbers clause)) (take l.clause-index l.clauses)
