use Rattle.printed_adapters.specs.Printed.{code_by}
use Rattle.printed_adapters.proofs.PrintedEnums.{named_next}
use Rattle.printed_adapters.proofs.enums.with_closures.Goals as goal

pub loop-id-preserved : goal.loop-id-preserved
loop-id-preserved c =
    named_next (code_by c.args.lowered.now) c.args.ids.now c.loop-id.id-index c.id-item.result _ _ _
    c.loop-id-test.true c.id-item.is c.loop-id.invariant c.in_ok-more.ensures.more
