use Rattle.std.proofs.Common.{◌≡◌, take}
use Rattle.taken_items.specs.ItemNames.{item_map}
use Rattle.taken_items.proofs.named.item_map.Given as goal

abbrev pub invariant-loop-entry : goal.invariant-loop-entry
invariant-loop-entry l = l.map ≡ item_map (take l.entry-index l.named)
