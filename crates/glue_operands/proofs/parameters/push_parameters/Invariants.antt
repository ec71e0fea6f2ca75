use Rattle.std.proofs.Common.{◌≡◌, ◌==◌, ◌++◌, true, drop}
use Rattle.glue_operands.specs.Form.{printed_parameters}
use Rattle.glue_operands.proofs.parameters.push_parameters.Given as goal

-- what is written, and what is still to come
abbrev pub invariant-loop-place : goal.invariant-loop-place
invariant-loop-place l = l.words ++ printed_parameters (l.place == 0) l.gathers (drop l.place l.names)
    ≡ l.initial.words ++ printed_parameters true l.gathers l.names
