use Rattle.std.proofs.Common.{take}
use Rattle.glue_lines.specs.Grouped.{AreByModule, placed_entries}
use Rattle.glue_lines.proofs.grouped.by_module.Given as goal

abbrev pub invariant-loop-import : goal.invariant-loop-import
invariant-loop-import l = AreByModule (placed_entries (take l.import-index l.imports)) l.lines
