-- The texts of words.
use Rattle.std.specs.Prelude.{ℕ, Bool, false, ◌&&◌, ◌||◌, ◌==◌, List, [], ◌∷◌, ◌++◌, if◌then◌else◌, encode_utf8, codes}
use Rattle.std.specs.List.{flat_map}
use Rattle.std.specs.Fmt.{signed_decimal}
use Rattle.std.specs.Str.{chars}
use Rattle.glue_words.specs.Tables.{punct_text, key_text, regex_text}
use Rattle.glue_words.specs.Ident.{is_ident}
use Rattle.glue_words.specs.Literal.{literal}
use Rattle.glue_words.specs.declared.word.NoteKind.{NoteKind}
use Rattle.glue_words.specs.declared.word.NoteKind.TheVariants.{Open, Line, Close, Slash, Block}
use Rattle.glue_words.specs.declared.word.Word.{Word}
use Rattle.glue_words.specs.declared.word.Word.TheVariants.{Punct, Key, Regex, Gap, Num, Text, Tpl, Note, Bind, Refer, Host, LocalBind, Local, Prop, Wasm, Outer, Splice}
use Rattle.glue_words.specs.declared.item.Item.{Item}

-- a line feed, a carriage return, U+2028 or U+2029
abbrev pub is_line_end : ℕ → Bool
is_line_end ch = ((ch == 10 || (ch == 13)) || (ch == 0x2028)) || (ch == 0x2029)

-- a character of a note, and whether a star stands before it
abbrev pub note_char : Bool → ℕ → List ℕ
note_char after_star ch =
    if after_star && (ch == 47) then 32 ∷ 47 ∷ []
    else (if is_line_end ch then 32 ∷ [] else encode_utf8 ch)

-- the characters of a note, with `* /` for `*/` and a space for the end of a line
abbrev pub note_chars : Bool → List ℕ → List ℕ
note_chars after_star [] = []
note_chars after_star (ch ∷ rest) = note_char after_star ch ++ note_chars (ch == 42) rest

unfoldable pub note_body : List ℕ → List ℕ
note_body text = note_chars false (chars text)

abbrev pub note_text : NoteKind → List ℕ → List ℕ
note_text Open text = codes "/**"
note_text Line text = codes " * " ++ note_body text
note_text Close text = codes " */"
note_text Slash text = codes "// " ++ note_body text
note_text Block text = codes "/* " ++ note_body text ++ codes " */"

-- the access of a property: `.name`, or `["name"]` where the name is no identifier
unfoldable pub access : List ℕ → List ℕ
access name = if is_ident name then 46 ∷ name else 91 ∷ literal name ++ 93 ∷ []

-- the name, or its literal where it is no identifier
unfoldable pub outer : List ℕ → List ℕ
outer name = if is_ident name then name else literal name

-- the text of a word
abbrev pub text_of : Word → List ℕ
text_of (Punct place) = punct_text place
text_of (Key place) = key_text place
text_of (Regex place) = regex_text place
text_of (Gap text) = text
text_of (Num value) = signed_decimal value
text_of (Text text) = literal text
text_of (Tpl text) = text
text_of (Note kind text) = note_text kind text
text_of (Bind name) = name
text_of (Refer name now) = name
text_of (Host name now) = name
text_of (LocalBind name) = name
text_of (Local name) = name
text_of (Prop name) = name
text_of (Wasm name) = access name
text_of (Outer name) = outer name
text_of (Splice text) = text

-- a space
abbrev pub space : Word
space = Gap (codes " ")

-- a line feed
abbrev pub line_feed : Word
line_feed = Gap (codes "\n")

-- the words of items, in order
abbrev pub words_of : List Item → List Word
words_of items = flat_map (λ item. item.words) items

-- the text that items print
abbrev pub printed : List Item → List ℕ
printed items = flat_map text_of (words_of items)
