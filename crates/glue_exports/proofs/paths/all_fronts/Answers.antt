use Rattle.std.proofs.Common.{sym, ◌∙◌}
use Rattle.glue_exports.proofs.Keys.{map_nothing, front_next}
use Rattle.glue_exports.proofs.paths.all_fronts.Goals as goal

pub loop-segment-init : goal.loop-segment-init
loop-segment-init c = rw (c.new-found.ensures.items, c.new-front.ensures) (map_nothing _)

pub loop-segment-preserved : goal.loop-segment-preserved
loop-segment-preserved c =
    rw (c.in_ok-push-2.ensures.items, c.in_ok-copy-2.ensures.equal, c.in_ok-push.ensures.ok, c.in_ok-copy.ensures.equal)
    (sym (front_next c.loop-segment.found.items c.loop-segment.front c.args.segments.now c.loop-segment.segment-index c.segment-item.result
    c.loop-segment-test.true c.segment-item.is) ∙ c.loop-segment.invariant)
