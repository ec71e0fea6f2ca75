use Rattle.std.proofs.Common.{◌≡◌, ◌++◌, drop}
use Rattle.described_files.specs.Planned.{inline_files}
use Rattle.described_files.proofs.files.push_inline.Given as goal

abbrev pub invariant-loop-place : goal.invariant-loop-place
invariant-loop-place l = l.files ++ inline_files l.name l.place (drop l.place l.texts) ≡ l.fn.files ++ inline_files l.name 0 l.texts
