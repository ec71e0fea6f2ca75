use Rattle.std.proofs.Common.{◌≡◌, drop}
use Rattle.std.specs.List.{flat_map}
use Rattle.planned_paths.specs.Paths as spec
use Rattle.planned_paths.proofs.problem.first_clash.Given as goal

abbrev pub invariant-loop-place : goal.invariant-loop-place
invariant-loop-place l = record {
  heads : l.heads ≡ flat_map spec.heads l.before;
  first : spec.first_clash l.files ≡ spec.first_clash_after l.before l.place (drop l.place l.files);
}
