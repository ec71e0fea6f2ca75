use Rattle.std.proofs.Common.{ap}
use Rattle.wasm_collect.specs.Edges.{declared_by}
use Rattle.wasm_collect.proofs.Declared.{fills_none}
use Rattle.wasm_collect.proofs.declarers.declare.Goals as goal

pub returns-in-None : goal.returns-in-None
returns-in-None g c = fills_none (declared_by g.T.Declares.named (g.T.Declares.thing c.args.place) c.args.entry.now) c.args.declarers.now.items (λ f. ap (λ e. declared_by g.T.Declares.named (g.T.Declares.thing c.args.place) e f) c.in-None.is)
