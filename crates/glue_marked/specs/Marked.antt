-- The marked notation: the words of a text, or the place of the first part that isn't in the notation.
use Rattle.std.specs.Prelude.{ℕ, ◌+◌, ◌*◌, ◌-◌, ◌^◌, Bool, true, false, not, ◌&&◌, ◌||◌, ◌==◌, nat_eq, nat_lt, List}
use Rattle.std.specs.Prelude.{[], ◌∷◌, length, drop, take, codes, is_some, Option, Some, None, Result, Ok, Err, pos}
use Rattle.std.specs.Prelude.{zero, suc, if◌then◌else◌}
use Rattle.std.specs.List.{prefix_len, starts_with, fold, list_all}
use Rattle.std.specs.Str.{bytes_eq, is_utf8}
use Rattle.std.specs.Char.{is_ascii_alphabetic, is_ascii_alphanumeric}
use Rattle.glue_words.specs.Ident.{is_reserved}
use Rattle.glue_words.specs.Tables.{punct_table, key_table}
use Rattle.glue_words.specs.Literal.{literal, read_literal}
use Rattle.glue_words.specs.Limits.{first_passes, last_passes, is_gap_byte, is_gap, is_template}
use Rattle.glue_words.specs.declared.word.Word.{Word}
use Rattle.glue_words.specs.declared.word.Word.TheVariants.{Punct, Key, Regex, Gap, Num, Text, Tpl, Bind, Refer, Host}
use Rattle.glue_words.specs.declared.word.Word.TheVariants.{LocalBind, Local, Prop, Wasm, Outer}
use Rattle.glue_words.specs.declared.punct.TheConstants as punct
use Rattle.glue_marked.specs.declared.mark_kind.Kind.{Kind}
use Rattle.glue_marked.specs.declared.mark_kind.Kind.TheVariants as kinds

-- ---- bytes

-- `b`, `u`, `n`, `h`, `g`, `l`, `p`, `o` or `r`
unfoldable pub is_mark : ℕ → Bool
is_mark b =
    ((b == 98 || (b == 117)) || (b == 110 || (b == 104)))
    || (((b == 103 || (b == 108)) || (b == 112 || (b == 111))) || (b == 114))

unfoldable pub is_digit : ℕ → Bool
is_digit b = nat_lt 47 b && nat_lt b 58

unfoldable pub is_name_byte : ℕ → Bool
is_name_byte b = (b == 36 || (b == 95)) || is_ascii_alphanumeric b

-- ---- what kind of word the bytes begin with

-- `}` goes on with a template where a substitution is what opened last
unfoldable pub begins_template : List Bool → ℕ → Bool
begins_template [] b = b == 96
begins_template (substitution ∷ opened) b = b == 96 || (b == 125 && substitution)

-- by the first byte alone
unfoldable pub kind_by_byte : ℕ → Kind
kind_by_byte b =
    if is_gap_byte b then kinds.Gap
    else (if is_digit b then kinds.Number
    else (if is_name_byte b then kinds.Name
    else (if b == 34 then kinds.Text
    else kinds.Punct)))

unfoldable pub kind_of : List Bool → List ℕ → Kind
kind_of opened [] = kinds.Punct
kind_of opened (b ∷ bs) =
    if begins_template opened b then kinds.Template
    else (if is_mark b && starts_with nat_eq bs (codes "@") then kinds.Mark
    else (if starts_with nat_eq (b ∷ bs) (codes ".w@") then kinds.Wasm
    else kind_by_byte b))

-- ---- how many bytes the word takes

-- up to the closing quote; the truth says whether a backslash stands before
unfoldable pub quote_len : Bool → List ℕ → ℕ
quote_len escaped [] = 0
quote_len true (b ∷ bs) = 1 + quote_len false bs
quote_len false (b ∷ bs) = elim (b == 34) [ true ↦ 1 | false ↦ 1 + quote_len (b == 92) bs ]

-- up to a backquote, or to `${`
unfoldable pub template_len : List ℕ → ℕ
template_len [] = 0
template_len (b ∷ bs) =
    elim (b == 96) [
      | true ↦ 1
      | false ↦ elim (b == 36) [ true ↦ length (take 2 (b ∷ bs)) | false ↦ 1 + template_len bs ]
    ]

-- the place of the first entry that is the text
unfoldable pub place_of : List ℕ → ℕ → List (List ℕ) → Option ℕ
place_of text place [] = None
place_of text place (entry ∷ entries) =
    elim (bytes_eq entry text) [ true ↦ Some place | false ↦ place_of text (place + 1) entries ]

unfoldable pub key_place : List ℕ → Option ℕ
key_place text = place_of text 0 key_table

unfoldable pub punct_place : List ℕ → Option ℕ
punct_place text = place_of text 0 punct_table

-- the longest punctuation; none has more than three bytes
unfoldable pub punct_len : List ℕ → ℕ
punct_len bytes =
    elim (is_some (punct_place (take 3 bytes))) [
      | true ↦ length (take 3 bytes)
      | false ↦ elim (is_some (punct_place (take 2 bytes))) [
        | true ↦ length (take 2 bytes)
        | false ↦ length (take 1 bytes)
      ]
    ]

unfoldable pub len_of : Kind → List ℕ → ℕ
len_of kinds.Template bytes = length (take 1 bytes) + template_len (drop 1 bytes)
len_of kinds.Mark bytes = length (take 2 bytes) + prefix_len is_name_byte (drop 2 bytes)
len_of kinds.Wasm bytes = length (take 3 bytes) + prefix_len is_name_byte (drop 3 bytes)
len_of kinds.Gap bytes = prefix_len is_gap_byte bytes
len_of kinds.Number bytes = prefix_len is_digit bytes
len_of kinds.Name bytes = prefix_len is_name_byte bytes
len_of kinds.Text bytes = length (take 1 bytes) + quote_len false (drop 1 bytes)
len_of kinds.Punct bytes = punct_len bytes

-- ---- the word of these bytes

-- the word if the test holds
abbrev pub allowed : Bool → Word → Option Word
allowed test word = elim test [ true ↦ Some word | false ↦ None ]

-- bytes of a name, the first of which is no digit
unfoldable pub is_named : List ℕ → Bool
is_named [] = false
is_named (b ∷ bs) = ((b == 36 || (b == 95)) || is_ascii_alphabetic b) && list_all is_name_byte bs

unfoldable pub is_free : List ℕ → Bool
is_free name = not (is_reserved name)

-- names of scopes aren't reserved; properties and names for the outside may be
unfoldable pub may_name : ℕ → List ℕ → Bool
may_name mark name = is_named name && ((mark == 112 || (mark == 111)) || is_free name)

unfoldable pub name_word : ℕ → List ℕ → Word
name_word mark name =
    if mark == 98 then Bind name
    else (if mark == 117 then Refer name false
    else (if mark == 110 then Refer name true
    else (if mark == 104 then Host name false
    else (if mark == 103 then Host name true
    else (if mark == 108 then LocalBind name
    else (if mark == 112 then Prop name
    else Outer name))))))

unfoldable pub regex_word : List ℕ → Option Word
regex_word name =
    elim (bytes_eq name (codes "0")) [ true ↦ Some (Regex 0) | false ↦ allowed (bytes_eq name (codes "1")) (Regex 1) ]

unfoldable pub marked_word : List ℕ → Option Word
marked_word [] = None
marked_word (mark ∷ bs) =
    let name = drop 1 bs in elim (mark == 114) [
      | true ↦ regex_word name
      | false ↦ allowed (may_name mark name) (name_word mark name)
    ]

unfoldable pub wasm_word : List ℕ → Option Word
wasm_word front = let name = drop 3 front in allowed (is_named name) (Wasm name)

-- the number with one more digit, none from 2 ^ 63 up
unfoldable pub digit_added : Option ℕ → ℕ → Option ℕ
digit_added None d = None
digit_added (Some n) d = let m = n * 10 + (d - 48) in elim (nat_lt m (2 ^ 63)) [ true ↦ Some m | false ↦ None ]

unfoldable pub number_word : List ℕ → Option Word
number_word digits = elim (fold digit_added (Some 0) digits) [ None ↦ None | Some n ↦ Some (Num (pos n)) ]

-- a name that stands bare: a property after a dot, else a keyword, or a local name, which isn't reserved
unfoldable pub bare_word : Bool → List ℕ → Option Word
bare_word true name = allowed (is_named name) (Prop name)
bare_word false name =
    elim (key_place name) [
      | Some place ↦ Some (Key place)
      | None ↦ allowed (is_named name && is_free name) (Local name)
    ]

-- the text, if it is one and this is its literal
unfoldable pub text_if : List ℕ → List ℕ → Option Word
text_if text front = elim (is_utf8 text) [ true ↦ allowed (bytes_eq (literal text) front) (Text text) | false ↦ None ]

-- the text whose literal this is
unfoldable pub text_word : List ℕ → Option Word
text_word front = elim (read_literal front) [ None ↦ None | Some text ↦ text_if text front ]

unfoldable pub punct_word : List ℕ → Option Word
punct_word front = elim (punct_place front) [ None ↦ None | Some place ↦ Some (Punct place) ]

unfoldable pub word_of : Kind → Bool → List ℕ → Option Word
word_of kinds.Template after_dot front = allowed (is_template front) (Tpl front)
word_of kinds.Mark after_dot front = marked_word front
word_of kinds.Wasm after_dot front = wasm_word front
word_of kinds.Gap after_dot front = allowed (is_gap front) (Gap front)
word_of kinds.Number after_dot front = number_word front
word_of kinds.Name after_dot front = bare_word after_dot front
word_of kinds.Text after_dot front = text_word front
word_of kinds.Punct after_dot front = punct_word front

-- ---- what a word leaves open: true for a substitution of a template, false for a brace

unfoldable pub open_after : List Bool → Word → List Bool
open_after opened (Tpl piece) =
    let outer : List Bool = elim (first_passes (λ b. b == 96) piece) [ true ↦ opened | false ↦ drop 1 opened ] in
    elim (last_passes (λ b. b == 123) piece) [ true ↦ true ∷ outer | false ↦ outer ]
open_after opened (Punct place) =
    elim (place == punct.OPEN_BRACE) [
      | true ↦ false ∷ opened
      | false ↦ elim (place == punct.CLOSE_BRACE) [ true ↦ drop 1 opened | false ↦ opened ]
    ]
open_after opened word = opened

unfoldable pub is_dot : Word → Bool
is_dot (Punct place) = place == punct.DOT
is_dot word = false

-- ---- words

-- a word before others
unfoldable pub preceded : Word → Result (List Word) ℕ → Result (List Word) ℕ
preceded word (Ok words) = Ok (word ∷ words)
preceded word (Err place) = Err place

-- The words of the bytes from a place on, of which the first few belong to the word before. A word takes one byte or
-- more.
unfoldable pub words_from : ℕ → ℕ → List Bool → Bool → List ℕ → Result (List Word) ℕ
words_from place left opened after_dot [] = Ok []
words_from place (suc left) opened after_dot (b ∷ bs) = words_from (place + 1) left opened after_dot bs
words_from place zero opened after_dot (b ∷ bs) =
    let kind = kind_of opened (b ∷ bs) in
    let left = len_of kind (b ∷ bs) - 1 in
    elim (word_of kind after_dot (b ∷ take left bs)) [
      | None ↦ Err place
      | Some word ↦ preceded word (words_from (place + 1) left (open_after opened word) (is_dot word) bs)
    ]

-- the words of a text, or the place of the first part that isn't in the notation
unfoldable pub read_marked : List ℕ → Result (List Word) ℕ
read_marked text = words_from 0 0 [] false text
