use Rattle.std.proofs.Common.{take}
use Rattle.wasm_collect.specs.Edges.{Fills, named_by}
use Rattle.wasm_collect.proofs.declarers.declare_names.Given as goal

abbrev pub invariant-loop-name : goal.invariant-loop-name
invariant-loop-name l = Fills (named_by l.thing (take l.name-index l.names)) l.fn.declarers.items l.declarers.items
