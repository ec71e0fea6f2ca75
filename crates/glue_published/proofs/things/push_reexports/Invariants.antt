use Rattle.std.proofs.Common.{◌≡◌, ◌++◌, map, take}
use Rattle.glue_published.specs.Things.{reexport_thing}
use Rattle.glue_published.proofs.things.push_reexports.Given as goal

abbrev pub invariant-loop-reexport : goal.invariant-loop-reexport
invariant-loop-reexport l = l.things ≡ l.initial.things ++ map reexport_thing (take l.reexport-index l.reexports)
