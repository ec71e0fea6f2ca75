use Rattle.std.proofs.Common.{◌≡◌, ◌++◌, take}
use Rattle.std.specs.List.{flat_map}
use Rattle.wasm_sections.specs.Going.{is_going}
use Rattle.wasm_sections.specs.Replaced.{kept_frame}
use Rattle.wasm_sections.proofs.replaced.push_kept.Given as goal

abbrev pub invariant-loop-frame : goal.invariant-loop-frame
invariant-loop-frame l = l.out.items ≡ l.fn.out.items ++ flat_map (kept_frame (is_going l.going) l.wasm) (take l.frame-index l.frames)
