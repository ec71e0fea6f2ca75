-- Facts of notes before an item, and of `export ` behind them.
use Rattle.std.proofs.Common.{◌≡◌, ℕ, List, [], ◌∷◌, ◌++◌, refl, ap, sym, ◌∙◌, append_assoc, true, false}
use Rattle.std.specs.Prelude.{Some}
use Rattle.std.specs.List.{flat_map}
use Rattle.glue_words.specs.declared.word.NoteKind.TheVariants.{Open}
use Rattle.glue_words.specs.declared.word.Word.{Word}
use Rattle.glue_words.specs.declared.word.Word.TheVariants.{Note}
use Rattle.glue_words.specs.Facts.{facts}
use Rattle.glue_words.specs.Words.{line_feed}
use Rattle.glue_words.proofs.LocalFacts.{of_locals}
use Rattle.glue_words.proofs.NoteFacts as notes
use Rattle.glue_exports.specs.Notes.{note_line, note_end, note_words}
use Rattle.glue_exports.specs.Printed.{export_behind, export_behind_notes}

-- ---- the facts of a note

lines_are : (texts : List (List ℕ)) → flat_map note_line texts ≡ notes.note_lines texts
lines_are [] = refl
lines_are (text ∷ texts) = ap (λ (words : List Word). note_line text ++ words) (lines_are texts)

-- a note stands wherever it is, and is closed behind itself
pub note_are : (texts : List (List ℕ))
    → facts (note_words texts) ≡ record (of_locals [] [] (Note Open []) (line_feed)) { turn = Some false }
note_are texts =
    ap (λ (words : List Word). facts (Note Open [] ∷ line_feed ∷ (words ++ note_end))) (lines_are texts) ∙ notes.note_are texts

-- ---- `export ` behind a note

behind_lines : (texts : List (List ℕ)) (words : List Word)
    → export_behind true (flat_map note_line texts ++ words) ≡ flat_map note_line texts ++ export_behind true words
behind_lines [] words = refl
behind_lines (text ∷ texts) words = ap (λ (more : List Word). note_line text ++ more) (behind_lines texts words)

-- `export ` stands behind a note that words begin with
pub behind_note : (texts : List (List ℕ)) (words : List Word)
    → export_behind_notes (note_words texts ++ words) ≡ note_words texts ++ export_behind true words
behind_note texts words =
    let lines = flat_map note_line texts in
    ap (λ (more : List Word). Note Open [] ∷ line_feed ∷ export_behind true more) (append_assoc lines note_end words)
    ∙ ap (λ (more : List Word). Note Open [] ∷ line_feed ∷ more) (behind_lines texts (note_end ++ words))
    ∙ ap (λ (more : List Word). Note Open [] ∷ line_feed ∷ more) (sym (append_assoc lines note_end (export_behind true words)))
