use Rattle.std.proofs.Common.{◌≡◌, take}
use Rattle.std.specs.List.{flat_map}
use Rattle.glue_naming.specs.Imported.{pair_names}
use Rattle.glue_naming.proofs.imported.own_called.Given as goal

abbrev pub invariant-loop-pair : goal.invariant-loop-pair
invariant-loop-pair l = l.list ≡ flat_map (pair_names l.own l.lowered) (take l.pair-index l.pairs)
