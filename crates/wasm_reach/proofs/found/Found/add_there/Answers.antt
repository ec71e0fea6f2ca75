use Rattle.std.proofs.Common.{sym, ◌∙◌}
use Rattle.wasm_reach.proofs.MarkSteps.{adds_none}
use Rattle.wasm_reach.proofs.found.Found.add_there.Goals as goal

pub add-requires : goal.add-requires
add-requires g c = c.requires c.args.thing (sym c.is_there-is_there.ensures ∙ c.if-is_there.true)

pub returns-then-is_there : goal.returns-then-is_there
returns-then-is_there g c = rw (sym c.is_there-is_there.ensures ∙ c.if-is_there.true) c.add.ensures

pub returns-else-is_there : goal.returns-else-is_there
returns-else-is_there g c = rw (sym c.is_there-is_there.ensures ∙ c.if-is_there.false) (adds_none c.args.self.now)
