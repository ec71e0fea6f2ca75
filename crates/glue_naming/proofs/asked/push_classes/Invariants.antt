use Rattle.std.proofs.Common.{◌≡◌, ◌++◌, take}
use Rattle.std.specs.List.{flat_map}
use Rattle.glue_naming.specs.Wanted.{class_names}
use Rattle.glue_naming.proofs.asked.push_classes.Given as goal

abbrev pub invariant-loop-class : goal.invariant-loop-class
invariant-loop-class l = l.list ≡ l.initial.list ++ flat_map class_names (take l.class-index l.classes)
