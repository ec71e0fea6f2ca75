use Rattle.printed_adapters.specs.Printed.{export_code}
use Rattle.printed_adapters.proofs.Making.{made_further}
use Rattle.printed_adapters.proofs.closures.push_exports.Goals as goal

pub loop-export-preserved : goal.loop-export-preserved
loop-export-preserved c =
    made_further (export_code c.args.lowered.now) c.args.places.now c.args.exports.now c.loop-export.export-index c.export-item.result _ _ _
    c.loop-export-test.true c.export-item.is c.loop-export.invariant c.in_ok-push_adapter.ensures.pushed
