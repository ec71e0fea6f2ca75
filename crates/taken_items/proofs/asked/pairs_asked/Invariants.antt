use Rattle.std.proofs.Common.{◌≡◌, take}
use Rattle.std.specs.List.{flat_map}
use Rattle.taken_items.specs.Asked.{pair_asks}
use Rattle.taken_items.proofs.asked.pairs_asked.Given as goal

abbrev pub invariant-loop-pair : goal.invariant-loop-pair
invariant-loop-pair l = l.asked ≡ flat_map (pair_asks l.settings l.own l.indexed) (take l.pair-index l.pairs)
