use Rattle.std.proofs.Common.{◌≡◌, ◌++◌, take, drop}
use Rattle.planned_paths.specs.Paths.{heads, heads_after}
use Rattle.planned_paths.proofs.heads.heads_of.Given as goal

abbrev pub invariant-loop-place : goal.invariant-loop-place
invariant-loop-place l = heads l.path ≡ l.heads ++ heads_after (take l.place l.path) (drop l.place l.path)
