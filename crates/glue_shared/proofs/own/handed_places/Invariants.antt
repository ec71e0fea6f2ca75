use Rattle.std.proofs.Common.{◌≡◌, take}
use Rattle.std.specs.List.{flat_map}
use Rattle.glue_shared.specs.Indexed.{handed_place}
use Rattle.glue_shared.proofs.own.handed_places.Given as goal

abbrev pub invariant-loop-pair : goal.invariant-loop-pair
invariant-loop-pair l = l.places ≡ flat_map (handed_place l.settings l.wit l.aux) (take l.pair-index l.pairs)
