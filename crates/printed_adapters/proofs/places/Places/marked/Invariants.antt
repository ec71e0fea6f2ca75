use Rattle.std.proofs.Common.{◌≡◌, take}
use Rattle.std.specs.List.{filter}
use Rattle.printed_adapters.specs.Places.{has_mark}
use Rattle.printed_adapters.proofs.places.Places.marked.Given as goal

abbrev pub invariant-loop-id : goal.invariant-loop-id
invariant-loop-id l = l.marked ≡ filter (has_mark l.self l.marks) (take l.id-index l.self)
