use Rattle.std.proofs.Common.{arith}
use Rattle.std.proofs.lemmas.Grind.{common_steps}
use Rattle.wasm_collect.proofs.Declared.{entries_begin, entries_more}
use Rattle.wasm_collect.proofs.declarers.declare_all.Goals as goal

pub loop-place-init : goal.loop-place-init
loop-place-init g c = entries_begin g.T.Declares.named g.T.Declares.thing c.args.declarers.now.items

pub loop-place-preserved : goal.loop-place-preserved
loop-place-preserved g c = entries_more g.T.Declares.named g.T.Declares.thing c.args.entries.now c.loop-place.place c.index-entries-place.result c.args.declarers.now.items c.loop-place.declarers.items c.declare.new.declarers.items c.loop-place-test.true c.index-entries-place.is c.loop-place.invariant c.in_ok-declare.ensures

pub returns : goal.returns
returns g c = grind (arith, common_steps)
