use Rattle.std.proofs.Common.{◌≡◌, ◌++◌, map, take}
use Rattle.std.specs.List.{flat_map}
use Rattle.wasm_code.specs.Numbers.{renumbered_ops}
use Rattle.wasm_code.specs.Spelling.{expression_bytes}
use Rattle.wasm_emission.proofs.segments.write_exprs.Given as goal

abbrev pub invariant-loop-expr : goal.invariant-loop-expr
invariant-loop-expr l = l.out.items ≡ l.fn.out.items ++ flat_map expression_bytes (map (renumbered_ops l.numbers) (take l.expr-index l.exprs))
