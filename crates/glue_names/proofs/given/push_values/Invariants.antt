use Rattle.std.proofs.Common.{◌≡◌, ◌++◌, map, take}
use Rattle.glue_names.specs.Given.{values_name}
use Rattle.glue_names.proofs.given.push_values.Given as goal

abbrev pub invariant-loop-texts : goal.invariant-loop-texts
invariant-loop-texts l = l.list ≡ l.initial.list ++ map values_name (take l.texts-index l.enums)
