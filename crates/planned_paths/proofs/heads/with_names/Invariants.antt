use Rattle.std.proofs.Common.{◌≡◌, ◌++◌, take}
use Rattle.planned_paths.proofs.heads.with_names.Given as goal

abbrev pub invariant-loop-name : goal.invariant-loop-name
invariant-loop-name l = l.all ≡ l.initial.all ++ take l.name-index l.names
