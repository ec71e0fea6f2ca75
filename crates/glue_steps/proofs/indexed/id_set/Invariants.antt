use Rattle.std.proofs.Common.{◌≡◌, take}
use Rattle.glue_steps.proofs.indexed.id_set.Given as goal

abbrev pub invariant-loop-id : goal.invariant-loop-id
invariant-loop-id l = l.set ≡ take l.id-index l.ids
