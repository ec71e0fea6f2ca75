use Rattle.std.proofs.Common.{◌≡◌, map, take}
use Rattle.glue_check.specs.Classes.{class_name}
use Rattle.glue_check.proofs.classes.class_names.Given as goal

abbrev pub invariant-loop-class : goal.invariant-loop-class
invariant-loop-class l = l.names ≡ map class_name (take l.class-index l.classes)
