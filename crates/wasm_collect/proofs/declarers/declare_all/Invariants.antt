use Rattle.std.proofs.Common.{take}
use Rattle.wasm_collect.specs.Edges.{Fills, first_declarer}
use Rattle.wasm_collect.proofs.declarers.declare_all.Given as goal

abbrev pub invariant-loop-place : goal.invariant-loop-place
invariant-loop-place g l = Fills (first_declarer g.T.Declares.named g.T.Declares.thing (take l.place l.entries)) l.fn.declarers.items l.declarers.items
