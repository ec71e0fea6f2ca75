use Rattle.std.proofs.Common.{◌≡◌, ◌==◌, ◌++◌, true, map, drop}
use Rattle.glue_operands.specs.Plainly.{plain_operand}
use Rattle.glue_operands.specs.Spelling.{arguments_words}
use Rattle.glue_operands.proofs.arguments.push_arguments.Given as goal

-- what is written, and what is still to come
abbrev pub invariant-loop-place : goal.invariant-loop-place
invariant-loop-place l = l.words ++ arguments_words (l.place == 0) l.spread (map plain_operand (drop l.place l.operands))
    ≡ l.initial.words ++ arguments_words true l.spread (map plain_operand l.operands)
