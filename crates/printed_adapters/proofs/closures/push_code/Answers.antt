use Rattle.printed_adapters.proofs.Making.{made_next}
use Rattle.printed_adapters.proofs.closures.push_code.Goals as goal

pub loop-instruction-preserved : goal.loop-instruction-preserved
loop-instruction-preserved c =
    made_next c.args.places.now c.args.code.now c.loop-instruction.instruction-index c.instruction-item.result _ _ _ c.loop-instruction-test.true
    c.instruction-item.is c.loop-instruction.invariant c.in_ok-push_made.ensures.pushed
