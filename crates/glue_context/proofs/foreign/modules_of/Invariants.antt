use Rattle.glue_context.proofs.Common.{modules_from, ◌≡◌, ◌++◌}
use Rattle.std.proofs.Common.{drop}
use Rattle.glue_context.proofs.foreign.modules_of.Given as goal

abbrev pub invariant-loop-place : goal.invariant-loop-place
invariant-loop-place l = l.modules ++ modules_from l.own l.place (drop l.place l.paths) ≡ modules_from l.own 0 l.paths
