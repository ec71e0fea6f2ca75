use Rattle.std.proofs.Common.{◌≡◌, map, take}
use Rattle.glue_order.specs.Walks.{first_step}
use Rattle.glue_order.proofs.places.first_steps.Given as goal

abbrev pub invariant-loop-entry : goal.invariant-loop-entry
invariant-loop-entry l = l.steps.items ≡ map (first_step l.level) (take l.entry-index l.level)
