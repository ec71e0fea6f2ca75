use Rattle.std.proofs.Common.{◌≡◌, ◌++◌}
use Rattle.described_files.specs.Planned.{snippet_files}
use Rattle.described_files.proofs.files.snippet_files.Given as goal

abbrev pub invariant-loop-name : goal.invariant-loop-name
invariant-loop-name l = l.files ++ snippet_files l.name-iterator ≡ snippet_files l.snippets
