use Rattle.std.proofs.Common.{◌≡◌, ◌-◌, true}
use Rattle.std.specs.List.{filter}
use Rattle.wasm_reach.specs.declared.things.Thing.{Thing}
use Rattle.wasm_reach.specs.Marks.{IsWithin, room}
use Rattle.wasm_reach.proofs.SearchSteps.{Searched}
use Rattle.wasm_reach.proofs.graph.add_reached.Given as goal

abbrev pub invariant-search : goal.invariant-search
invariant-search g l = record {
  within : (t : Thing) → g.G.Graph.is_there l.graph t ≡ true → IsWithin l.found.marks t;
  searched : Searched (λ t. filter (g.G.Graph.is_there l.graph) (g.G.Graph.names l.graph t)) (filter (g.G.Graph.is_there l.graph) l.roots) l.next l.found;
}

abbrev pub decreases-search : goal.decreases-search
decreases-search g l = room l.found.marks - l.next
