use Rattle.std.proofs.Common.{◌≡◌, drop}
use Rattle.glue_faults.specs.First.{first_of}
use Rattle.glue_check.specs.Classes.{unknown_instruction}
use Rattle.glue_check.proofs.classes.first_of_code.Given as goal

abbrev pub invariant-loop-instruction : goal.invariant-loop-instruction
invariant-loop-instruction l = first_of (unknown_instruction l.classes) (drop l.instruction-index l.code) ≡ first_of (unknown_instruction l.classes) l.code
