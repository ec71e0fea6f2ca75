use Rattle.std.proofs.Common.{◌≡◌, take}
use Rattle.helper_table.specs.Closed.{needed_helpers}
use Rattle.helper_table.proofs.closing.needed_nodes.Given as goal

abbrev pub invariant-loop-key : goal.invariant-loop-key
invariant-loop-key l = l.nodes.items ≡ needed_helpers l.parts (take l.key-index l.needed)
