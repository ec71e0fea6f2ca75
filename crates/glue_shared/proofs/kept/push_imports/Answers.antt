use Rattle.std.proofs.Common.{◌∙◌, ◌++◌, ap}
use Rattle.glue_shared.specs.Roots.{import_items, listed}
use Rattle.glue_shared.proofs.Grown.{grown}
use Rattle.glue_shared.proofs.kept.push_imports.Goals as goal

pub loop-pair-preserved : goal.loop-pair-preserved
loop-pair-preserved c =
    c.in_ok-push_listed.ensures.pushed
    ∙ ap (λ item. c.loop-pair.out.items ++ listed item) c.brought_in.ensures.item
    ∙ grown (import_items c.args.«module».now) _ _ c.args.pairs.now c.loop-pair.pair-index c.pair-item.result c.loop-pair-test.true c.pair-item.is c.loop-pair.invariant
