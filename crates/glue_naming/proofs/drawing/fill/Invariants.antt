use Rattle.std.proofs.Common.{◌≡◌, take}
use Rattle.glue_naming.specs.Drawing.{map_of}
use Rattle.glue_shared.specs.NameMap.{no_names}
use Rattle.glue_naming.proofs.drawing.fill.Given as goal

abbrev pub invariant-loop-place : goal.invariant-loop-place
invariant-loop-place l = l.map ≡ map_of no_names (take l.place l.list) (take l.place l.names)
