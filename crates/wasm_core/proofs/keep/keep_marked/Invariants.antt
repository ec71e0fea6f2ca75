use Rattle.std.proofs.Common.{◌≡◌, ◌++◌, take, drop, get_or, false}
use Rattle.wasm_core.specs.Remainder.{kept_places}
use Rattle.wasm_core.proofs.keep.keep_marked.Given as goal

abbrev pub invariant-loop-place : goal.invariant-loop-place
invariant-loop-place g l = l.entries.items ≡ kept_places (λ i. get_or l.marks i false) 0 (take l.place l.fn.entries.items) ++ drop l.place l.fn.entries.items
