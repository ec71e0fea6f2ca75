-- What each kind of word may hold.
use Rattle.std.specs.Prelude.{ℕ, Bool, true, false, ◌&&◌, ◌||◌, ◌==◌, nat_lt, List, [], ◌∷◌, length, if◌then◌else◌}
use Rattle.std.specs.List.{list_all}
use Rattle.std.specs.Str.{chars}
use Rattle.glue_words.specs.Ident.{is_ident, is_rest}
use Rattle.glue_words.specs.Tables.{punct_table, key_table, regex_table}
use Rattle.glue_words.specs.declared.word.Word.{Word}
use Rattle.glue_words.specs.declared.word.Word.TheVariants.{Punct, Key, Regex, Gap, Num, Text, Tpl, Note, Bind, Refer, Host, LocalBind, Local, Prop, Wasm, Outer, Splice}

-- the first byte passes a test
abbrev pub first_passes : (ℕ → Bool) → List ℕ → Bool
first_passes test [] = false
first_passes test (b ∷ bs) = test b

-- the last byte passes a test
abbrev pub last_passes : (ℕ → Bool) → List ℕ → Bool
last_passes test [] = false
last_passes test (b ∷ []) = test b
last_passes test (b ∷ c ∷ bs) = last_passes test (c ∷ bs)

-- a space or a line feed
abbrev pub is_gap_byte : ℕ → Bool
is_gap_byte b = b == 32 || (b == 10)

-- spaces and line feeds alone, and at least one
abbrev pub is_gap : List ℕ → Bool
is_gap [] = false
is_gap (b ∷ bs) = is_gap_byte b && list_all is_gap_byte bs

-- identifier characters alone, and at least one
abbrev pub are_ident_chars : List ℕ → Bool
are_ident_chars [] = false
are_ident_chars (ch ∷ rest) = is_rest ch && list_all is_rest rest

-- the name of a property, which may be a reserved word
unfoldable pub is_prop : List ℕ → Bool
is_prop name = are_ident_chars (chars name)

-- no more bytes
abbrev pub is_end : List ℕ → Bool
is_end [] = true
is_end (b ∷ bs) = false

-- a brace, and no more bytes
abbrev pub is_brace : List ℕ → Bool
is_brace [] = false
is_brace (b ∷ bs) = b == 123 && is_end bs

-- printable ASCII up to a backquote or `${` at the end, where a backslash stands only in `\n`. The truth says whether a backslash
-- stands before
abbrev pub is_template_rest : Bool → List ℕ → Bool
is_template_rest escaped [] = false
is_template_rest true (b ∷ bs) = b == 110 && is_template_rest false bs
is_template_rest false (b ∷ bs) =
    if b == 96 then is_end bs
    else (if b == 36 then is_brace bs
    else (if b == 92 then is_template_rest true bs
    else ((nat_lt 31 b && nat_lt b 127) && is_template_rest false bs)))

-- a piece of a template literal: from a backquote or `}` up to `${` or a backquote, on one line
abbrev pub is_template : List ℕ → Bool
is_template [] = false
is_template (b ∷ bs) = (b == 96 || (b == 125)) && is_template_rest false bs

-- what a word holds is right for its kind. A note stands on one line whatever its text is, since its line ends are printed as spaces
abbrev pub keeps_limits : Word → Bool
keeps_limits (Punct place) = nat_lt place (length punct_table)
keeps_limits (Key place) = nat_lt place (length key_table)
keeps_limits (Regex place) = nat_lt place (length regex_table)
keeps_limits (Gap text) = is_gap text
keeps_limits (Num value) = true
keeps_limits (Text text) = true
keeps_limits (Tpl text) = is_template text
keeps_limits (Note kind text) = true
keeps_limits (Bind name) = is_ident name
keeps_limits (Refer name now) = is_ident name
keeps_limits (Host name now) = is_ident name
keeps_limits (LocalBind name) = is_ident name
keeps_limits (Local name) = is_ident name
keeps_limits (Prop name) = is_prop name
keeps_limits (Wasm name) = true
keeps_limits (Outer name) = true
keeps_limits (Splice text) = true

-- a computed property key: it begins with `[` and ends with `]`
abbrev pub is_computed : List ℕ → Bool
is_computed text = first_passes (λ b. b == 91) text && last_passes (λ b. b == 93) text
