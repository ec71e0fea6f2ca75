use Rattle.std.proofs.Common.{◌≡◌, ◌+◌, drop, false}
use Rattle.glue_marked.specs.Marked.{quote_len}
use Rattle.glue_marked.proofs.mark_length.quote_len.Given as goal

abbrev pub invariant-loop-place : goal.invariant-loop-place
invariant-loop-place l = quote_len false l.bytes ≡ l.place + quote_len l.escaped (drop l.place l.bytes)
