use Rattle.std.proofs.Common.{◌≡◌, ◌++◌, take}
use Rattle.glue_names.specs.Omitted.{reexported}
use Rattle.glue_names.proofs.omitted.push_reexported.Given as goal

abbrev pub invariant-loop-reexport : goal.invariant-loop-reexport
invariant-loop-reexport l = l.list ≡ l.initial.list ++ reexported (take l.reexport-index l.reexports)
