use Rattle.std.proofs.Common.{◌≡◌, drop}
use Rattle.std.specs.List.{find}
use Rattle.wasm_core.specs.Edits.{is_named}
use Rattle.wasm_core.proofs.edits.find_custom.Given as goal

abbrev pub invariant-loop-custom : goal.invariant-loop-custom
invariant-loop-custom l = find (is_named l.name) (drop l.custom-index l.customs) ≡ find (is_named l.name) l.customs
