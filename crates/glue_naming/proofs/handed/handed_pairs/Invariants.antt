use Rattle.std.proofs.Common.{◌≡◌, take}
use Rattle.std.specs.List.{flat_map}
use Rattle.glue_naming.specs.Handed.{handed_pair}
use Rattle.glue_naming.proofs.handed.handed_pairs.Given as goal

abbrev pub invariant-loop-pair : goal.invariant-loop-pair
invariant-loop-pair l = l.list ≡ flat_map (handed_pair l.own l.lowered) (take l.pair-index l.pairs)
