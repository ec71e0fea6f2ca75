use Rattle.std.proofs.Common.{◌≡◌, drop}
use Rattle.glue_steps.specs.Resolving.{steps_of}
use Rattle.glue_steps.proofs.Resolved.{with_front}
use Rattle.glue_steps.proofs.resolving.steps_of.Given as goal

abbrev pub invariant-loop-instruction : goal.invariant-loop-instruction
invariant-loop-instruction l = with_front l.steps (steps_of l.basis.settings.now l.basis.names.now l.indexed (drop l.instruction-index l.code)) ≡ steps_of l.basis.settings.now l.basis.names.now l.indexed l.code
