use Rattle.std.proofs.Common.{◌≡◌, fold}
use Rattle.std.specs.Vec.Iter.{into_iter_items}
use Rattle.wasm_core.specs.Parsing.{name_given}
use Rattle.wasm_core.proofs.assemble.give_names.Given as goal

abbrev pub invariant-loop-func : goal.invariant-loop-func
invariant-loop-func l = goal.iterator-loop-func.can_next l.func-iterator
    × goal.iterator-loop-func.is_finite l.func-iterator
    × (fold name_given l.funcs.items (into_iter_items l.func-iterator) ≡ fold name_given l.fn.funcs.items l.fn.names)
