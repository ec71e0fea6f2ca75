use Rattle.std.proofs.Common.{◌≡◌, take}
use Rattle.std.specs.List.{flat_map}
use Rattle.claimed_modules.specs.Modules.{called_place}
use Rattle.claimed_modules.proofs.modules.called_places.Given as goal

abbrev pub invariant-loop-pair : goal.invariant-loop-pair
invariant-loop-pair l = l.places ≡ flat_map (called_place l.wit l.entries l.name) (take l.pair-index l.wit.implements)
