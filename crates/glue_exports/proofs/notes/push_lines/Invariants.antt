use Rattle.std.proofs.Common.{◌≡◌, ◌++◌, take}
use Rattle.std.specs.List.{flat_map}
use Rattle.glue_exports.specs.Notes.{note_line}
use Rattle.glue_exports.proofs.notes.push_lines.Given as goal

abbrev pub invariant-loop-text : goal.invariant-loop-text
invariant-loop-text l = l.words ≡ l.initial.words ++ flat_map note_line (take l.text-index l.texts)
