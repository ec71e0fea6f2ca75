use Rattle.std.proofs.Common.{◌≡◌, ◌≤◌, ◌-◌, length, drop, reverse}
use Rattle.glue_marked.specs.Marked.{words_from, read_marked}
use Rattle.glue_marked.proofs.MarkedReading.{followed}
use Rattle.glue_marked.proofs.mark_reader.marked.Given as goal

abbrev pub invariant-loop-place : goal.invariant-loop-place
invariant-loop-place l = record {
  within : l.place ≤ length l.bytes;
  reads : followed l.words (words_from l.place 0 (reverse l.opened) l.after_dot (drop l.place l.bytes))
      ≡ read_marked l.bytes;
}

abbrev pub decreases-loop-place : goal.decreases-loop-place
decreases-loop-place l = length l.bytes - l.place
