use Rattle.std.proofs.Common.{subst}
use Rattle.std.specs.List.{filter}
use Rattle.std.proofs.lemmas.List.{take_all}
use Rattle.wasm_reach.specs.Found.{Adds}
use Rattle.wasm_reach.proofs.MarkSteps.{added_more}
use Rattle.wasm_reach.proofs.found.Found.add_all.Goals as goal

pub loop-thing-preserved : goal.loop-thing-preserved
loop-thing-preserved g c = added_more (g.G.Graph.is_there c.args.graph.now) c.args.things.now c.loop-thing.thing-index _ c.args.self.now c.loop-thing.self c.add_there.new.self c.loop-thing-test.true c.loop-thing.invariant c.in_ok-add_there.ensures

pub add_there-requires : goal.add_there-requires
add_there-requires g c = λ t h. c.loop-thing.invariant.within t (c.requires t h)

pub returns : goal.returns
returns g c = subst (λ xs. Adds c.args.self.now c.loop-thing.self (filter (g.G.Graph.is_there c.args.graph.now) xs)) (take_all _ _ c.loop-thing-test.false) c.loop-thing.invariant
