use Rattle.std.proofs.Common.{◌∙◌}
use Rattle.glue_shared.specs.Roots.{listed}
use Rattle.glue_shared.proofs.Grown.{grown_at}
use Rattle.glue_shared.proofs.kept.push_all.Goals as goal

pub loop-part-preserved : goal.loop-part-preserved
loop-part-preserved c =
    c.in_ok-push_listed.ensures.pushed
    ∙ grown_at listed _ _ c.args.parts.now c.loop-part.part-index _ c.loop-part-test.true c.loop-part.invariant
