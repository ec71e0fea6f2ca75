use Rattle.std.proofs.Common.{◌≡◌, ◌+◌, drop}
use Rattle.std.specs.List.{prefix_len}
use Rattle.glue_words.specs.Limits.{is_gap_byte}
use Rattle.glue_marked.proofs.mark_length.gap_len.Given as goal

abbrev pub invariant-loop-place : goal.invariant-loop-place
invariant-loop-place l = prefix_len is_gap_byte l.bytes ≡ l.place + prefix_len is_gap_byte (drop l.place l.bytes)
