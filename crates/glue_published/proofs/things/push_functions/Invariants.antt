use Rattle.std.proofs.Common.{◌≡◌, ◌++◌, take}
use Rattle.std.specs.List.{flat_map}
use Rattle.glue_published.specs.Things.{export_things}
use Rattle.glue_published.proofs.things.push_functions.Given as goal

abbrev pub invariant-loop-export : goal.invariant-loop-export
invariant-loop-export l = l.things ≡ l.initial.things ++ flat_map export_things (take l.export-index l.exports)
