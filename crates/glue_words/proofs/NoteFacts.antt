-- Facts of a note of several lines, as documentation before an item.
use Rattle.std.proofs.Common.{◌≡◌, ℕ, List, ◌∷◌, [], ◌++◌, refl, ◌∙◌, false}
use Rattle.std.specs.Prelude.{Some}
use Rattle.glue_words.specs.declared.word.NoteKind.TheVariants.{Open, Line, Close}
use Rattle.glue_words.specs.declared.word.Word.{Word}
use Rattle.glue_words.specs.declared.word.Word.TheVariants.{Note}
use Rattle.glue_words.specs.Words.{line_feed}
use Rattle.glue_words.specs.Facts.{facts, joined}
use Rattle.glue_words.proofs.Joined.{joined_are}
use Rattle.glue_words.proofs.LocalFacts.{of_locals}

abbrev pub note_lines : List (List ℕ) → List Word
note_lines [] = []
note_lines (text ∷ texts) = Note Line text ∷ line_feed ∷ note_lines texts

abbrev note_end : List Word
note_end = Note Close [] ∷ line_feed ∷ []

-- `/**`, a line for each text, and ` */`
abbrev pub note_words : List (List ℕ) → List Word
note_words texts = Note Open [] ∷ line_feed ∷ (note_lines texts ++ note_end)

abbrev first_line : List (List ℕ) → Word
first_line [] = Note Close []
first_line (text ∷ texts) = Note Line text

lines_are : (texts : List (List ℕ))
    → facts (note_lines texts ++ note_end)
    ≡ record (of_locals [] [] (first_line texts) (line_feed)) { turn = Some false; outside = false }
lines_are [] = refl
lines_are (text ∷ texts) =
    joined_are (Note Line text ∷ line_feed ∷ []) (note_lines texts ++ note_end) _ _ refl (lines_are texts) ∙ next texts
  where
    next : (texts : List (List ℕ))
        → joined (facts (Note Line text ∷ line_feed ∷ []))
        (record (of_locals [] [] (first_line texts) (line_feed)) { turn = Some false; outside = false })
        ≡ record (of_locals [] [] (Note Line text) (line_feed)) { turn = Some false; outside = false }
    next [] = refl
    next (other ∷ texts) = refl

-- the note stands wherever it is, and is closed behind itself
pub note_are : (texts : List (List ℕ))
    → facts (note_words texts) ≡ record (of_locals [] [] (Note Open []) (line_feed)) { turn = Some false }
note_are [] = refl
note_are (text ∷ texts) =
    joined_are (Note Open [] ∷ line_feed ∷ []) (note_lines (text ∷ texts)
    ++ note_end) _ _ refl (lines_are (text ∷ texts))
