use Rattle.std.proofs.Common.{◌≡◌, take}
use Rattle.taken_items.specs.ItemNames.{each_item}
use Rattle.taken_items.proofs.named.each_item.Given as goal

abbrev pub invariant-loop-item : goal.invariant-loop-item
invariant-loop-item l = l.set ≡ each_item (take l.item-index l.asked)
