use Rattle.std.proofs.Common.{◌≡◌, ◌++◌, take, map}
use Rattle.wasm_collect.specs.Reach.{item_thing}
use Rattle.wasm_collect.proofs.roots.push_items.Given as goal

abbrev pub invariant-loop-item : goal.invariant-loop-item
invariant-loop-item l = l.out.items ≡ l.fn.out.items ++ map item_thing (take l.item-index l.items)
