use Rattle.std.proofs.Common.{◌≡◌, ◌++◌, take}
use Rattle.std.specs.List.{flat_map}
use Rattle.wasm_collect.specs.Reach.{export_things}
use Rattle.wasm_collect.proofs.roots.push_exports.Given as goal

abbrev pub invariant-loop-entry : goal.invariant-loop-entry
invariant-loop-entry l = l.out.items ≡ l.fn.out.items ++ flat_map export_things (take l.entry-index l.entries)
