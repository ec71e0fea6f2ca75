use Rattle.std.proofs.Common.{◌≡◌, ◌++◌, false}
use Rattle.std.specs.String.{string_bytes}
use Rattle.glue_words.specs.Words.{note_chars}
use Rattle.glue_words.proofs.NoteSteps.{star_after}
use Rattle.glue_words.proofs.printing.push_note_body.Given as goal

abbrev pub invariant-loop-ch : goal.invariant-loop-ch
invariant-loop-ch l = record {
  written : string_bytes l.out ≡ string_bytes l.initial.out ++ note_chars false l.yielded;
  star : l.after_star ≡ star_after false l.yielded;
}
