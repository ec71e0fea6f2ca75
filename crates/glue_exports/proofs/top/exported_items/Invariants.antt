use Rattle.std.proofs.Common.{◌≡◌, map, take}
use Rattle.glue_exports.specs.Printed.{exported_item}
use Rattle.glue_exports.proofs.top.exported_items.Given as goal

abbrev pub invariant-loop-item : goal.invariant-loop-item
invariant-loop-item l = l.exported ≡ map exported_item (take l.item-index l.items)
