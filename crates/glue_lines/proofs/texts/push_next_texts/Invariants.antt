use Rattle.std.proofs.Common.{◌≡◌, ◌++◌, take}
use Rattle.std.specs.List.{flat_map}
use Rattle.glue_lines.specs.Texts.{next_text}
use Rattle.glue_lines.proofs.texts.push_next_texts.Given as goal

abbrev pub invariant-loop-text : goal.invariant-loop-text
invariant-loop-text l = l.words ≡ l.initial.words ++ flat_map next_text (take l.text-index l.texts)
