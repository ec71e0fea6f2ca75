use Rattle.std.proofs.Common.{take}
use Rattle.wasm_collect.specs.Edges.{AreForgotten}
use Rattle.wasm_collect.proofs.declarers.forget_exported.Given as goal

abbrev pub invariant-loop-entry : goal.invariant-loop-entry
invariant-loop-entry l = AreForgotten (take l.entry-index l.exports) l.fn.declarers.items l.declarers.items
