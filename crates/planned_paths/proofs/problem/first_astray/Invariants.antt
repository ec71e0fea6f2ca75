use Rattle.std.proofs.Common.{◌≡◌, drop}
use Rattle.planned_paths.specs.Paths.{first_astray, first_astray_from}
use Rattle.planned_paths.proofs.problem.first_astray.Given as goal

abbrev pub invariant-loop-place : goal.invariant-loop-place
invariant-loop-place l = first_astray l.files ≡ first_astray_from l.place (drop l.place l.files)
