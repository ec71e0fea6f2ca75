use Rattle.printed_adapters.specs.Printed.{pair_code}
use Rattle.printed_adapters.proofs.PrintedEnums.{named_next}
use Rattle.printed_adapters.proofs.enums.with_pairs.Goals as goal

pub loop-pair-preserved : goal.loop-pair-preserved
loop-pair-preserved c =
    named_next (pair_code c.args.own.now c.args.lowered.now) c.args.pairs.now c.loop-pair.pair-index c.pair-item.result _ _ _
    c.loop-pair-test.true c.pair-item.is c.loop-pair.invariant c.in_ok-more.ensures.more
