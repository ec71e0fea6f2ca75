use Rattle.std.proofs.Common.{◌≤◌, ◌+◌, length, string_bytes}
use Rattle.std.specs.Str.Iter.{lines_rest}
use Rattle.glue_layout.specs.Layout.{indented}
use Rattle.glue_layout.proofs.Laying.{LaysOut}
use Rattle.glue_layout.proofs.layout.reset_indentation.Given as goal

abbrev pub invariant-loop-untrimmed : goal.invariant-loop-untrimmed
invariant-loop-untrimmed l = record {
  laid : LaysOut l.untrimmed-iterator l.level (string_bytes l.laid) (indented l.fn.text);
  room : l.level + length (lines_rest l.untrimmed-iterator) ≤ length l.fn.text;
}
