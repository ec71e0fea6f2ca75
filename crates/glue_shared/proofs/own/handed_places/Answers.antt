use Rattle.std.proofs.Common.{◌∙◌, []}
use Rattle.glue_shared.specs.Indexed.{handed_place}
use Rattle.glue_shared.proofs.Grown.{grown}
use Rattle.glue_shared.proofs.own.handed_places.Goals as goal

pub loop-pair-preserved : goal.loop-pair-preserved
loop-pair-preserved c =
    c.in_ok-places.ensures.places
    ∙ grown (handed_place c.args.settings.now c.args.wit.now c.args.aux.now) [] _ c.args.pairs.now c.loop-pair.pair-index c.pair-item.result c.loop-pair-test.true c.pair-item.is c.loop-pair.invariant
