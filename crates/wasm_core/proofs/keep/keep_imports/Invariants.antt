use Rattle.std.proofs.Common.{◌≡◌, ◌++◌, take, drop, map}
use Rattle.wasm_reach.specs.Marks.{is_marked}
use Rattle.wasm_core.specs.Remainder.{kept_import}
use Rattle.wasm_core.proofs.keep.keep_imports.Given as goal

abbrev pub invariant-loop-place : goal.invariant-loop-place
invariant-loop-place l = l.imports.items ≡ map (kept_import (is_marked l.marks)) (take l.place l.fn.imports.items) ++ drop l.place l.fn.imports.items
