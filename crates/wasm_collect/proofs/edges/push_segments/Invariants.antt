use Rattle.std.proofs.Common.{◌≡◌, ◌++◌, take, map}
use Rattle.wasm_collect.proofs.edges.push_segments.Given as goal

abbrev pub invariant-loop-place : goal.invariant-loop-place
invariant-loop-place g l = l.out.items ≡ l.fn.out.items ++ map g.K.SegmentKind.thing (take l.place-index l.places)
