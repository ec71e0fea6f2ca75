use Rattle.std.proofs.Common.{◌≡◌, ◌++◌, map, take}
use Rattle.glue_operands.specs.Plainly.{plain_operand}
use Rattle.glue_operands.specs.Spelling.{parts_words}
use Rattle.glue_operands.proofs.import.push_parts.Given as goal

abbrev pub invariant-loop-part : goal.invariant-loop-part
invariant-loop-part l = l.words ≡ l.initial.words ++ parts_words (take l.part-index l.parts) l.locals (map plain_operand l.operands)
