use Rattle.std.proofs.Common.{◌≡◌, ◌+◌, drop}
use Rattle.std.specs.List.{prefix_len}
use Rattle.glue_marked.specs.Marked.{is_name_byte}
use Rattle.glue_marked.proofs.mark_length.name_len.Given as goal

abbrev pub invariant-loop-place : goal.invariant-loop-place
invariant-loop-place l = prefix_len is_name_byte l.bytes ≡ l.place + prefix_len is_name_byte (drop l.place l.bytes)
