use Rattle.helper_table.proofs.Steps.{items_next}
use Rattle.helper_table.proofs.asked.asked_nodes.Goals as goal

pub loop-item-preserved : goal.loop-item-preserved
loop-item-preserved c =
    items_next c.args.parts.now c.args.items.now c.loop-item.item-index c.item-item.result c.loop-item.nodes.items
    c.push_words.new.nodes.items c.loop-item-test.true c.item-item.is c.loop-item.invariant
    (rw c.as_slice.ensures at c.in_ok-push_words.ensures.asked)
