use Rattle.std.proofs.Common.{◌≡◌, take}
use Rattle.std.specs.List.{flat_map}
use Rattle.taken_items.specs.Asked.{export_asks}
use Rattle.taken_items.proofs.asked.exports_asked.Given as goal

abbrev pub invariant-loop-export : goal.invariant-loop-export
invariant-loop-export l = l.asked ≡ flat_map (export_asks l.settings l.indexed) (take l.export-index l.exports)
