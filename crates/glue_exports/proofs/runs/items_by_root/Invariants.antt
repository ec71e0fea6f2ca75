use Rattle.std.proofs.Common.{◌≡◌, ◌++◌}
use Rattle.std.specs.List.{flat_map}
use Rattle.std.specs.Vec.Iter.{into_iter_items}
use Rattle.glue_exports.specs.Kept.{runs_behind}
use Rattle.glue_exports.specs.Printed.{run_items, runs}
use Rattle.glue_exports.proofs.runs.items_by_root.Given as goal

abbrev pub invariant-loop-entry : goal.invariant-loop-entry
invariant-loop-entry l =
    goal.iterator-loop-entry.can_next l.entry-iterator
    × goal.iterator-loop-entry.is_finite l.entry-iterator
    × (l.items ++ flat_map (run_items l.roots l.hosts) (runs_behind l.run.items (into_iter_items l.entry-iterator))
    ≡ flat_map (run_items l.roots l.hosts) (runs l.fn.entries.items))
