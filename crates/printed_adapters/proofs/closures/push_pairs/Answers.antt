use Rattle.printed_adapters.specs.Printed.{pair_code}
use Rattle.printed_adapters.proofs.Making.{made_further}
use Rattle.printed_adapters.proofs.closures.push_pairs.Goals as goal

pub loop-pair-preserved : goal.loop-pair-preserved
loop-pair-preserved c =
    made_further (pair_code c.args.own.now c.args.lowered.now) c.args.places.now c.args.pairs.now c.loop-pair.pair-index c.pair-item.result _ _ _
    c.loop-pair-test.true c.pair-item.is c.loop-pair.invariant c.in_ok-push_pair.ensures.pushed
