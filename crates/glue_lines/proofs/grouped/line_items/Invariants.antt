use Rattle.std.proofs.Common.{◌≡◌, ◌++◌, map}
use Rattle.glue_lines.specs.Grouped.{line_of}
use Rattle.glue_lines.proofs.grouped.line_items.Given as goal

abbrev pub invariant-loop-path : goal.invariant-loop-path
invariant-loop-path l = map (line_of l.form) l.lines ≡ l.items ++ map (line_of l.form) l.path-iterator
