use Rattle.wasm_collect.proofs.Declared.{names_begin, names_more}
use Rattle.wasm_collect.proofs.declarers.declare_names.Goals as goal

pub loop-name-init : goal.loop-name-init
loop-name-init c = names_begin c.args.thing c.args.declarers.now.items

pub loop-name-preserved : goal.loop-name-preserved
loop-name-preserved c = names_more c.args.thing c.args.names.now c.loop-name.name-index _ c.args.declarers.now.items c.loop-name.declarers.items c.declare_name.new.declarers.items c.loop-name-test.true c.loop-name.invariant c.declare_name.ensures
