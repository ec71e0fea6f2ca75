use Rattle.std.proofs.Common.{◌≡◌, ◌++◌, map, take}
use Rattle.glue_public.specs.Described.{reexport_definition}
use Rattle.glue_public.proofs.definitions.push_reexports.Given as goal

abbrev pub invariant-loop-reexport : goal.invariant-loop-reexport
invariant-loop-reexport l =
    l.definitions ≡ l.initial.definitions ++ map (reexport_definition l.names) (take l.reexport-index l.reexports)
