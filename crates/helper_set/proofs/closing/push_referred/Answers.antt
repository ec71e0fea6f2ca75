use Rattle.helper_set.proofs.Entries.{referred_next}
use Rattle.helper_set.proofs.closing.push_referred.Goals as goal

pub loop-word-preserved : goal.loop-word-preserved
loop-word-preserved g c = referred_next (g.T.Table.binder c.args.table.now) c.args.words.now c.loop-word.word-index c.word-item.result c.args.out.now.items c.loop-word.out.items c.push_binder.new.out.items c.loop-word-test.true c.word-item.is c.loop-word.invariant c.in_ok-push_binder.ensures.appended
