use Rattle.std.proofs.Common.{◌≡◌, drop, false}
use Rattle.glue_words.specs.Limits.{is_template_rest}
use Rattle.glue_marked.proofs.mark_word.is_template_rest.Given as goal

abbrev pub invariant-loop-place : goal.invariant-loop-place
invariant-loop-place l = is_template_rest l.escaped (drop l.place l.bytes) ≡ is_template_rest false l.bytes
