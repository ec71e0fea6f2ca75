use Rattle.std.proofs.Common.{◌≡◌, take}
use Rattle.glue_adapters.proofs.called.listed.Given as goal

abbrev pub invariant-loop-id : goal.invariant-loop-id
invariant-loop-id l = l.set ≡ take l.id-index l.ids
