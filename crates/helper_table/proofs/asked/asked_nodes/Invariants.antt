use Rattle.std.proofs.Common.{◌≡◌, take}
use Rattle.helper_table.specs.Closed.{asked_helpers}
use Rattle.helper_table.proofs.asked.asked_nodes.Given as goal

abbrev pub invariant-loop-item : goal.invariant-loop-item
invariant-loop-item l = l.nodes.items ≡ asked_helpers l.parts (take l.item-index l.items)
