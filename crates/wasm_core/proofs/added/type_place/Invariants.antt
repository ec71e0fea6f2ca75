use Rattle.std.proofs.Common.{◌≡◌, drop}
use Rattle.std.specs.List.{position_from}
use Rattle.wasm_core.specs.Edits.{is_entry_alike}
use Rattle.wasm_core.proofs.added.type_place.Given as goal

abbrev pub invariant-loop-place : goal.invariant-loop-place
invariant-loop-place l = position_from (is_entry_alike l.ty) l.place (drop l.place l.types) ≡ position_from (is_entry_alike l.ty) 0 l.types
