-- Comments as notes before what they describe.
use Rattle.std.specs.Prelude.{ℕ, ◌==◌, List, [], ◌∷◌, ◌++◌, map, Option, Some, None, if◌then◌else◌}
use Rattle.std.specs.List.{flat_map}
use Rattle.std.specs.Str.Lines.{lines}
use Rattle.glue_words.specs.declared.word.NoteKind.TheVariants.{Open, Line, Close}
use Rattle.glue_words.specs.declared.word.Word.{Word}
use Rattle.glue_words.specs.declared.word.Word.TheVariants as w
use Rattle.glue_words.specs.Words.{line_feed}

-- a line without the space that it begins with: in a note a space stands before each line
abbrev pub unspaced : List ℕ → List ℕ
unspaced [] = []
unspaced (b ∷ bs) = if b == 32 then bs else b ∷ bs

-- the lines of a comment, as a note has them
abbrev pub comment_lines : List ℕ → List (List ℕ)
comment_lines comment = map unspaced (lines comment)

-- the same of a comment that may be missing
abbrev pub lines_of : Option (List ℕ) → List (List ℕ)
lines_of None = []
lines_of (Some comment) = comment_lines comment

-- ` * text`
abbrev pub note_line : List ℕ → List Word
note_line text = w.Note Line text ∷ line_feed ∷ []

-- ` */`
abbrev pub note_end : List Word
note_end = w.Note Close [] ∷ line_feed ∷ []

-- `/**`, a line for each text, and ` */`
abbrev pub note_words : List (List ℕ) → List Word
note_words texts = w.Note Open [] ∷ line_feed ∷ (flat_map note_line texts ++ note_end)

-- the note of these lines, none where there are none
abbrev pub note_of : List (List ℕ) → List Word
note_of [] = []
note_of (text ∷ texts) = note_words (text ∷ texts)
