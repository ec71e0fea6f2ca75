use Rattle.std.proofs.Common.{◌≡◌, ◌++◌, take, map}
use Rattle.wasm_collect.specs.Reach.{func_thing}
use Rattle.wasm_collect.proofs.naming.push_funcs.Given as goal

abbrev pub invariant-loop-func : goal.invariant-loop-func
invariant-loop-func l = l.out.items ≡ l.fn.out.items ++ map func_thing (take l.func-index l.funcs)
