use Rattle.std.proofs.Common.{◌≡◌, take}
use Rattle.std.specs.List.{flat_map}
use Rattle.taken_items.specs.Asked.{closure_asks}
use Rattle.taken_items.proofs.asked.closures_asked.Given as goal

abbrev pub invariant-loop-id : goal.invariant-loop-id
invariant-loop-id l = l.asked ≡ flat_map (closure_asks l.settings l.indexed) (take l.id-index l.ids)
