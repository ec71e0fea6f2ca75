use Rattle.std.proofs.Common.{take}
use Rattle.std.specs.List.{filter}
use Rattle.wasm_reach.specs.Found.{Adds}
use Rattle.wasm_reach.proofs.found.Found.add_all.Given as goal

abbrev pub invariant-loop-thing : goal.invariant-loop-thing
invariant-loop-thing g l = Adds l.fn.self l.self (filter (g.G.Graph.is_there l.graph) (take l.thing-index l.things))
