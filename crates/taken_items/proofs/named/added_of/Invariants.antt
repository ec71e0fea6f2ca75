use Rattle.std.proofs.Common.{◌≡◌, take}
use Rattle.std.specs.List.{flat_map}
use Rattle.taken_items.specs.ItemNames.{added}
use Rattle.taken_items.proofs.named.added_of.Given as goal

abbrev pub invariant-loop-entry : goal.invariant-loop-entry
invariant-loop-entry l = l.added ≡ flat_map (added l.exports) (take l.entry-index l.named)
