use Rattle.printed_adapters.specs.Printed.{export_code}
use Rattle.printed_adapters.proofs.PrintedEnums.{named_next}
use Rattle.printed_adapters.proofs.enums.with_exports.Goals as goal

pub loop-export-preserved : goal.loop-export-preserved
loop-export-preserved c =
    named_next (export_code c.args.lowered.now) c.args.exports.now c.loop-export.export-index c.export-item.result _ _ _
    c.loop-export-test.true c.export-item.is c.loop-export.invariant c.in_ok-more.ensures.more
