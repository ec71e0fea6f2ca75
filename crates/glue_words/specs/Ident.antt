-- Identifiers.
use Rattle.std.specs.Prelude.{ℕ, Bool, false, not, ◌&&◌, ◌||◌, ◌==◌, List, [], ◌∷◌, ◌++◌, nat_eq, map, encode_utf8_all, if◌then◌else◌}
use Rattle.std.specs.List.{list_any, list_all}
use Rattle.std.specs.Cmp.Lexicographic.{pointwise}
use Rattle.std.specs.Str.{chars}
use Rattle.std.specs.Fmt.{decimal}
use Rattle.unicode_ident.specs.Ident.{is_xid_start, is_xid_continue}
use Rattle.glue_words.specs.declared.ident.TheConstants.{RESERVED}

-- whether a name is reserved
abbrev pub is_reserved : List ℕ → Bool
is_reserved name = list_any (λ word. pointwise nat_eq word.now name) RESERVED

-- `$`, `_` or a character that may start an identifier
abbrev pub is_first : ℕ → Bool
is_first ch = (ch == 36 || (ch == 95)) || is_xid_start ch

-- `$`, `_` or a character that may continue an identifier
abbrev pub is_rest : ℕ → Bool
is_rest ch = (ch == 36 || (ch == 95)) || is_xid_continue ch

-- a first character and others that may follow it
abbrev pub has_ident_form : List ℕ → Bool
has_ident_form [] = false
has_ident_form (ch ∷ rest) = is_first ch && list_all is_rest rest

-- whether a name is an identifier: it has the form, and is not reserved
unfoldable pub is_ident : List ℕ → Bool
is_ident name = not (is_reserved name) && has_ident_form (chars name)

-- the character, or `_` where no identifier holds it
abbrev pub kept_char : ℕ → ℕ
kept_char ch = if is_rest ch then ch else 95

-- the name with `_` for each character that no identifier holds
unfoldable pub cleaned_name : List ℕ → List ℕ
cleaned_name name = encode_utf8_all (map kept_char (chars name))

-- the name made an identifier: where the cleaned name is none, `_` stands before it
unfoldable pub to_ident : List ℕ → List ℕ
to_ident name = if is_ident (cleaned_name name) then cleaned_name name else 95 ∷ cleaned_name name

-- a name followed by a number
abbrev pub numbered : List ℕ → ℕ → List ℕ
numbered name n = name ++ decimal n
