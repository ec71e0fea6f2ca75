use Rattle.std.proofs.Common.{◌≡◌, ◌++◌, map, take}
use Rattle.glue_published.specs.Things.{class_thing}
use Rattle.glue_published.proofs.things.push_classes.Given as goal

abbrev pub invariant-loop-class : goal.invariant-loop-class
invariant-loop-class l = l.things ≡ l.initial.things ++ map class_thing (take l.class-index l.classes)
