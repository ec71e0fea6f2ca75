use Rattle.std.proofs.Common.{take}
use Rattle.wasm_collect.specs.Edges.{AreRows}
use Rattle.wasm_collect.proofs.rows.segment_rows.Given as goal

abbrev pub invariant-loop-place : goal.invariant-loop-place
invariant-loop-place g l = AreRows g.T.Aimed.target (take l.place l.segments) l.count l.rows.items
