use Rattle.std.proofs.Common.{◌≡◌, map, take}
use Rattle.glue_order.specs.Walks.{then_walk}
use Rattle.glue_order.proofs.walks.joined.Given as goal

abbrev pub invariant-loop-walk : goal.invariant-loop-walk
invariant-loop-walk l = l.joined.items ≡ map (then_walk l.others) (take l.walk-index l.walks)
