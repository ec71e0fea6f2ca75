use Rattle.std.proofs.Common.{◌≡◌, take}
use Rattle.std.specs.List.{count_by}
use Rattle.glue_operands.specs.Nesting.{nests}
use Rattle.glue_operands.proofs.nesting.nesting.Given as goal

abbrev pub invariant-loop-step : goal.invariant-loop-step
invariant-loop-step l = l.count ≡ count_by nests (take l.step-index l.steps)
