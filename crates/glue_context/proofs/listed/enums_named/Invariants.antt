use Rattle.glue_context.proofs.Common.{◌≡◌, map, take}
use Rattle.std.specs.Prelude.{filter}
use Rattle.glue_context.specs.ListedItems.{is_chosen}
use Rattle.glue_context.proofs.listed.enums_named.Given as goal

abbrev pub invariant-loop-texts : goal.invariant-loop-texts
invariant-loop-texts l = map (λ e. e.now) l.chosen.items ≡ filter (is_chosen l.named) (take l.texts-index l.enums)
