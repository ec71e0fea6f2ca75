use Rattle.std.proofs.Common.{◌≡◌, drop}
use Rattle.taken_items.specs.ItemNames.{export_of}
use Rattle.taken_items.proofs.named.export_of.Given as goal

abbrev pub invariant-loop-entry : goal.invariant-loop-entry
invariant-loop-entry l = export_of l.item (drop l.entry-index l.exports) ≡ export_of l.item l.exports
