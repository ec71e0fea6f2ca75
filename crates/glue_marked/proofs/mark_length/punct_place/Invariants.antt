use Rattle.std.proofs.Common.{◌≡◌, drop}
use Rattle.glue_words.specs.Tables.{punct_table}
use Rattle.glue_marked.specs.Marked.{place_of}
use Rattle.glue_marked.proofs.mark_length.punct_place.Given as goal

abbrev pub invariant-loop-place : goal.invariant-loop-place
invariant-loop-place l = place_of l.text l.place (drop l.place punct_table) ≡ place_of l.text 0 punct_table
