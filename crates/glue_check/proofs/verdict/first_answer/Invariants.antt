use Rattle.std.proofs.Common.{◌≡◌, drop}
use Rattle.glue_faults.specs.First.{first_of}
use Rattle.glue_check.specs.Answers.{answer}
use Rattle.glue_check.proofs.verdict.first_answer.Given as goal

abbrev pub invariant-loop-condition : goal.invariant-loop-condition
invariant-loop-condition l = first_of (answer l.files l.settings l.lowered) (drop l.condition-index l.conditions) ≡ first_of (answer l.files l.settings l.lowered) l.conditions
