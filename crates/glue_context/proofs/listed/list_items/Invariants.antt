use Rattle.glue_context.proofs.Common.{◌≡◌, map, take}
use Rattle.glue_context.specs.ListedItems.{list_items}
use Rattle.glue_context.proofs.listed.list_items.Given as goal

abbrev pub invariant-loop-texts : goal.invariant-loop-texts
invariant-loop-texts l = l.items ≡ list_items (map (λ e. e.now) (take l.texts-index l.enums))
