use Rattle.std.proofs.Common.{◌≡◌, map, take}
use Rattle.glue_exports.specs.Kept.{lacking}
use Rattle.glue_exports.specs.Printed.{inner_item}
use Rattle.glue_exports.proofs.places.new_objects.Given as goal

abbrev pub invariant-loop-path : goal.invariant-loop-path
invariant-loop-path l = l.items ≡ map (inner_item l.root.word l.root.operator) (lacking l.placed (take l.path-index l.paths))
