use Rattle.std.proofs.Common.{◌≡◌, ◌++◌}
use Rattle.described_files.specs.Planned.{local_files}
use Rattle.described_files.proofs.files.local_files.Given as goal

abbrev pub invariant-loop-path : goal.invariant-loop-path
invariant-loop-path l = l.files ++ local_files l.path-iterator ≡ local_files l.modules
