use Rattle.glue_exports.proofs.Placed.{place_next}
use Rattle.glue_exports.proofs.places.places.Goals as goal

pub loop-entry-preserved : goal.loop-entry-preserved
loop-entry-preserved c =
    let r = c.args.root.now in
    rw c.in_ok-append.ensures.ok (place_next r.hosts.now r.word r.operator c.loop-entry.placed c.place.new.placed c.loop-entry.items c.in_ok-place.field-0 _
    c.args.below.now c.loop-entry.entry-index c.entry-item.result c.loop-entry-test.true c.entry-item.is c.loop-entry.invariant.0
    c.in_ok-place.ensures.added c.in_ok-place.ensures.items c.loop-entry.invariant.1)
