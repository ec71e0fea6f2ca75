use Rattle.std.proofs.Common.{◌≡◌, ◌++◌, take}
use Rattle.glue_lines.specs.Lines.{further_entries}
use Rattle.glue_lines.proofs.lines.push_further.Given as goal

abbrev pub invariant-loop-entry : goal.invariant-loop-entry
invariant-loop-entry l = l.words ≡ l.initial.words ++ further_entries l.form (take l.entry-index l.entries)
