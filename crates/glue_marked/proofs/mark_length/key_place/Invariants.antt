use Rattle.std.proofs.Common.{◌≡◌, drop}
use Rattle.glue_words.specs.Tables.{key_table}
use Rattle.glue_marked.specs.Marked.{place_of}
use Rattle.glue_marked.proofs.mark_length.key_place.Given as goal

abbrev pub invariant-loop-place : goal.invariant-loop-place
invariant-loop-place l = place_of l.text l.place (drop l.place key_table) ≡ place_of l.text 0 key_table
