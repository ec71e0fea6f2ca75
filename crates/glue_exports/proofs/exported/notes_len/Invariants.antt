use Rattle.std.proofs.Common.{◌≡◌, ◌++◌, take, drop}
use Rattle.glue_exports.specs.Printed.{export_behind, export_behind_notes}
use Rattle.glue_exports.proofs.exported.notes_len.Given as goal

abbrev pub invariant-loop-place : goal.invariant-loop-place
invariant-loop-place l = export_behind_notes l.words ≡ take l.place l.words ++ export_behind l.noted (drop l.place l.words)
