use Rattle.std.proofs.Common.{◌≡◌, ◌++◌, take}
use Rattle.std.specs.List.{flat_map}
use Rattle.wasm_collect.specs.Reach.{ops_names}
use Rattle.wasm_collect.proofs.naming.push_exprs.Given as goal

abbrev pub invariant-loop-expr : goal.invariant-loop-expr
invariant-loop-expr l = l.out.items ≡ l.fn.out.items ++ flat_map ops_names (take l.expr-index l.exprs)
