-- Words that stand next to one another without being read as other words.
use Rattle.std.specs.Prelude.{ℕ, ℤ, pos, negsuc, Bool, true, false, not, ◌&&◌, ◌||◌, ◌==◌, nat_lt, nat_le, List, [], ◌∷◌, ◌++◌, length, codes, Option, Some, None}
use Rattle.std.specs.Char.{is_ascii_alphanumeric}
use Rattle.std.specs.List.{list_any}
use Rattle.std.specs.Str.{bytes_eq}
use Rattle.glue_words.specs.declared.punct.TheConstants as punct
use Rattle.glue_words.specs.declared.key.TheConstants as key
use Rattle.glue_words.specs.Tables.{punct_table, punct_text}
use Rattle.glue_words.specs.Limits.{first_passes, last_passes}
use Rattle.glue_words.specs.Words.{text_of}
use Rattle.glue_words.specs.declared.word.NoteKind.TheVariants.{Open, Line, Close, Slash}
use Rattle.glue_words.specs.declared.word.Word.{Word}
use Rattle.glue_words.specs.declared.word.Word.TheVariants.{Punct, Key, Gap, Num, Note, Refer, Wasm}
use Rattle.glue_words.specs.declared.item.Item.{Item}

-- a byte that an identifier may hold: `$`, `_`, an ASCII letter or digit, or a byte of a character beyond ASCII
abbrev pub is_ident_byte : ℕ → Bool
is_ident_byte b = ((b == 36 || (b == 95)) || is_ascii_alphanumeric b) || nat_le 128 b

-- a number before the key `n`, as in `0n`
abbrev pub is_big_number : Word → Word → Bool
is_big_number (Num value) (Key place) = place == key.N
is_big_number word next = false

-- two words meet with identifier characters on both sides
abbrev pub meets : Word → Word → Bool
meets word next = not (is_big_number word next) && (first_passes is_ident_byte (text_of next) && last_passes is_ident_byte (text_of word))

-- the one list is a beginning of the other
abbrev pub agrees : List ℕ → List ℕ → Bool
agrees [] ys = true
agrees (x ∷ xs) [] = true
agrees (x ∷ xs) (y ∷ ys) = x == y && agrees xs ys

-- the texts of two places, put together, begin a text of the table that is longer than the first, or a comment
unfoldable pub joins : ℕ → ℕ → Bool
joins first second =
    list_any (λ entry. nat_lt (length (punct_text first)) (length entry) && agrees entry (punct_text first ++ punct_text second))
    (codes "//" ∷ codes "/*" ∷ punct_table)

-- `-` or `--` before a negative number
abbrev pub is_minus_number : ℕ → ℤ → Bool
is_minus_number place (pos n) = false
is_minus_number place (negsuc n) = place == punct.MINUS || (place == punct.DECREMENT)

-- two words would be read otherwise: punctuation that joins, a minus sign before a negative number, or a dot after a number
abbrev pub is_misread : Word → Word → Bool
is_misread (Punct place) (Punct next) = joins place next
is_misread (Punct place) (Num value) = is_minus_number place value
is_misread (Num value) (Punct place) = place == punct.DOT || (place == punct.SPREAD)
is_misread word next = false

-- the name is `wasm`
abbrev pub is_wasm : List ℕ → Bool
is_wasm name = bytes_eq (codes "wasm") name

-- the word uses the name `wasm`
abbrev pub is_wasm_use : Word → Bool
is_wasm_use (Refer name now) = is_wasm name
is_wasm_use word = false

-- the word is the access of an export
abbrev pub is_export_access : Word → Bool
is_export_access (Wasm name) = true
is_export_access word = false

-- the access of an export stands after something else than the name `wasm`
abbrev pub is_loose_access : Word → Word → Bool
is_loose_access word next = is_export_access next && not (is_wasm_use word)

-- a note up to the end of the line
abbrev pub is_line_note : Word → Bool
is_line_note (Note Slash text) = true
is_line_note word = false

-- a gap that begins with a line feed
abbrev pub is_line_gap : Word → Bool
is_line_gap (Gap text) = first_passes (λ b. b == 10) text
is_line_gap word = false

-- a word may stand before what follows it: the next word, or the end of the text
abbrev pub stands : Word → Option Word → Bool
stands word None = not (is_line_note word)
stands word (Some next) =
    ((not (meets word next) && not (is_misread word next)) && not (is_loose_access word next)) && (not (is_line_note word) || is_line_gap next)

-- the first of the words, or what follows them
abbrev pub first_word : List Word → Option Word → Option Word
first_word [] next = next
first_word (word ∷ words) next = Some word

-- the first word of items
abbrev pub front_word : List Item → Option Word
front_word [] = None
front_word (item ∷ items) = first_word item.words (front_word items)

-- each word passes a test with what follows it
abbrev pub each_next : (Word → Option Word → Bool) → List Word → Option Word → Bool
each_next test [] next = true
each_next test (word ∷ words) next = test word (first_word words next) && each_next test words next

-- the words don't begin with the access of an export
abbrev pub begins_apart : List Word → Bool
begins_apart [] = true
begins_apart (word ∷ words) = not (is_export_access word)

-- whether a note of several lines is open after a word, and after words
abbrev pub is_open_after : Bool → Word → Bool
is_open_after inside (Note Open text) = true
is_open_after inside (Note Close text) = false
is_open_after inside word = inside

abbrev pub is_open : Bool → List Word → Bool
is_open inside [] = inside
is_open inside (word ∷ words) = is_open (is_open_after inside word) words

-- the lines of such a note, and its end, stand only while it is open
abbrev pub note_stands : Bool → Word → Bool
note_stands inside (Note Line text) = inside
note_stands inside (Note Close text) = inside
note_stands inside word = true

abbrev pub notes_stand : Bool → List Word → Bool
notes_stand inside [] = true
notes_stand inside (word ∷ words) = note_stands inside word && notes_stand (is_open_after inside word) words
