use Rattle.glue_context.proofs.Common.{foreign_lines, ◌≡◌, ◌+◌, ◌++◌}
use Rattle.std.proofs.Common.{drop}
use Rattle.glue_context.proofs.foreign.foreign_lines.Given as goal

abbrev pub invariant-loop-place : goal.invariant-loop-place
invariant-loop-place l = l.items ++ foreign_lines (l.place + 1) (drop l.place l.modules) ≡ foreign_lines 1 l.modules
