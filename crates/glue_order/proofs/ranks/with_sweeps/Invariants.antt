use Rattle.std.proofs.Common.{◌≡◌, ◌++◌, length}
use Rattle.std.specs.Vec.Iter.{into_iter_items}
use Rattle.glue_order.specs.Walks.{sweeps_from}
use Rattle.glue_order.proofs.ranks.with_sweeps.Given as goal

abbrev pub invariant-loop-name : goal.invariant-loop-name
invariant-loop-name l =
    goal.iterator-loop-name.can_next l.name-iterator
    × goal.iterator-loop-name.is_finite l.name-iterator
    × (l.ranked.items ++ sweeps_from l.walks (length l.ranked.items) (into_iter_items l.name-iterator) ≡ sweeps_from l.walks 0 l.fn.level)
