use Rattle.wasm_collect.proofs.Declared.{forgotten_none, forgotten_more}
use Rattle.wasm_collect.proofs.declarers.forget_exported.Goals as goal

pub loop-entry-init : goal.loop-entry-init
loop-entry-init c = forgotten_none c.args.declarers.now.items

pub loop-entry-preserved : goal.loop-entry-preserved
loop-entry-preserved c = forgotten_more c.args.exports.now c.loop-entry.entry-index c.entry-item.result c.args.declarers.now.items c.loop-entry.declarers.items c.forget.new.declarers.items c.loop-entry-test.true c.entry-item.is c.loop-entry.invariant c.forget.ensures
