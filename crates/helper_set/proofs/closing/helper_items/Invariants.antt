use Rattle.std.proofs.Common.{◌≡◌, ◌++◌, map}
use Rattle.helper_set.specs.Helpers.{held_item}
use Rattle.helper_set.proofs.closing.helper_items.Given as goal

abbrev pub invariant-loop-key : goal.invariant-loop-key
invariant-loop-key l = map held_item l.held ≡ l.items ++ map held_item l.key-iterator
