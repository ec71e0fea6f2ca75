use Rattle.std.proofs.Common.{◌≡◌, ◌++◌, take}
use Rattle.glue_operands.specs.Spelling.{path_words}
use Rattle.glue_operands.proofs.import.push_host.Given as goal

abbrev pub invariant-loop-field : goal.invariant-loop-field
invariant-loop-field l = l.words ≡ l.initial.words ++ path_words (take l.field-index l.fields)
