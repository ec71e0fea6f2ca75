use Rattle.std.proofs.Common.{◌≡◌, ◌++◌, map, take}
use Rattle.glue_published.specs.Things.{enum_thing}
use Rattle.glue_published.proofs.things.push_enums.Given as goal

abbrev pub invariant-loop-one : goal.invariant-loop-one
invariant-loop-one l = l.things ≡ l.initial.things ++ map enum_thing (take l.one-index l.enums)
