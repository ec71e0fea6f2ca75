use Rattle.std.proofs.Common.{◌≡◌, drop}
use Rattle.std.specs.List.{find}
use Rattle.glue_adapters.specs.Pairs.{lacks_call}
use Rattle.glue_adapters.proofs.exports.first_not_import.Given as goal

abbrev pub invariant-loop-id : goal.invariant-loop-id
invariant-loop-id l = find (lacks_call l.lowered) (drop l.id-index l.ids) ≡ find (lacks_call l.lowered) l.ids
