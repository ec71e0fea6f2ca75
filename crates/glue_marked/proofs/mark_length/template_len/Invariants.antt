use Rattle.std.proofs.Common.{◌≡◌, ◌+◌, drop}
use Rattle.glue_marked.specs.Marked.{template_len}
use Rattle.glue_marked.proofs.mark_length.template_len.Given as goal

abbrev pub invariant-loop-place : goal.invariant-loop-place
invariant-loop-place l = template_len l.bytes ≡ l.place + template_len (drop l.place l.bytes)
