use Rattle.std.proofs.Common.{◌≡◌, ◌+◌, drop}
use Rattle.std.specs.List.{prefix_len}
use Rattle.glue_marked.specs.Marked.{is_digit}
use Rattle.glue_marked.proofs.mark_length.number_len.Given as goal

abbrev pub invariant-loop-place : goal.invariant-loop-place
invariant-loop-place l = prefix_len is_digit l.bytes ≡ l.place + prefix_len is_digit (drop l.place l.bytes)
