use Rattle.glue_context.proofs.Common.{◌≡◌, ◌++◌}
use Rattle.std.specs.Vec.Iter.{into_iter_items}
use Rattle.glue_context.specs.Items.{joined_groups}
use Rattle.glue_context.proofs.exported.joined.Given as goal

abbrev pub invariant-loop-group : goal.invariant-loop-group
invariant-loop-group l =
    goal.iterator-loop-group.can_next l.group-iterator
    × goal.iterator-loop-group.is_finite l.group-iterator
    × (l.items ++ joined_groups (into_iter_items l.group-iterator) ≡ joined_groups l.fn.groups)
