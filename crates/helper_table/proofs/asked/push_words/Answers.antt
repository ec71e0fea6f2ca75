use Rattle.helper_table.proofs.Steps.{words_next}
use Rattle.helper_table.proofs.asked.push_words.Goals as goal

pub loop-word-preserved : goal.loop-word-preserved
loop-word-preserved c =
    words_next c.args.parts.now c.args.words.now c.loop-word.word-index c.word-item.result c.args.nodes.now.items c.loop-word.nodes.items
    c.push_word.new.nodes.items c.loop-word-test.true c.word-item.is c.loop-word.invariant c.in_ok-push_word.ensures.asked
