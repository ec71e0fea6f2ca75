use Rattle.std.proofs.Common.{◌≡◌, ◌++◌}
use Rattle.std.specs.Vec.Iter.{into_iter_items}
use Rattle.glue_order.specs.Order.{AreSortedInside}
use Rattle.glue_order.proofs.order.+levels.Given as goal

abbrev pub invariant-sorted_inside-loop-name : goal.invariant-sorted_inside-loop-name
invariant-sorted_inside-loop-name l =
    goal.iterator-sorted_inside-loop-name.can_next l.name-iterator
    × goal.iterator-sorted_inside-loop-name.is_finite l.name-iterator
    × (l.yielded ++ into_iter_items l.name-iterator ≡ l.fn.entries)
    × AreSortedInside l.yielded l.inner
