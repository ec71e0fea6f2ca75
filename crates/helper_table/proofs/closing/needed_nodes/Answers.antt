use Rattle.helper_table.proofs.Steps.{needed_next}
use Rattle.helper_table.proofs.closing.needed_nodes.Goals as goal

pub loop-key-preserved : goal.loop-key-preserved
loop-key-preserved c =
    needed_next c.args.parts.now c.args.needed.now c.loop-key.key-index c.key-item.result c.loop-key.nodes.items
    c.push_keyed.new.out.items c.loop-key-test.true c.key-item.is c.loop-key.invariant c.in_ok-push_keyed.ensures.appended
