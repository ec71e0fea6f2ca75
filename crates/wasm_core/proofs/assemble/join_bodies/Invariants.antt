use Rattle.std.proofs.Common.{◌≡◌, ◌++◌, ◌+◌, length, drop, map, Some}
use Rattle.std.specs.Vec.Iter.{into_iter_items}
use Rattle.wasm_core.specs.Parsing.{own_funcs}
use Rattle.wasm_core.proofs.assemble.join_bodies.Given as goal

abbrev pub invariant-loop-body : goal.invariant-loop-body
invariant-loop-body l = goal.iterator-loop-body.can_next l.body-iterator
    × goal.iterator-loop-body.is_finite l.body-iterator
    × (l.funcs.items ++ map Some (own_funcs (drop l.place l.types) (into_iter_items l.body-iterator)) ≡ l.fn.funcs.items ++ map Some (own_funcs l.types l.fn.bodies))
    × (l.place + length (into_iter_items l.body-iterator) ≡ length l.types)
