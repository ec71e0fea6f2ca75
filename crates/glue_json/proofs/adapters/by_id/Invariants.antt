use Rattle.std.proofs.Common.{◌≡◌, []}
use Rattle.std.specs.Vec.Iter.{into_iter_items}
use Rattle.glue_json.specs.Adapters.{put_all}
use Rattle.glue_json.proofs.adapters.by_id.Given as goal

abbrev pub invariant-loop-id : goal.invariant-loop-id
invariant-loop-id l =
    (goal.iterator-loop-id).can_next l.id-iterator
    × (goal.iterator-loop-id).is_finite l.id-iterator
    × (put_all [] l.fn.rows ≡ put_all l.adapters (into_iter_items l.id-iterator))
