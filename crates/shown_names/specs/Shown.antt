-- Names as they stand in sentences.
use Rattle.std.specs.Prelude.{ℕ, Bool, true, false, nat_lt, nat_le, ◌==◌, ◌&&◌, ◌||◌, List, [], ◌∷◌, ◌++◌, take, slice_get, is_some, codes, encode_utf8, if◌then◌else◌}
use Rattle.std.specs.List.{flat_map}
use Rattle.std.specs.Str.{chars}
use Rattle.std.specs.Fmt.{digits}

-- a character that shows nothing, ends a line or turns the direction of what stands behind it
abbrev pub is_hidden : ℕ → Bool
is_hidden ch = (nat_lt ch 32 || (nat_le 127 ch && nat_lt ch 160)) || ((nat_le 0x2028 ch && nat_le ch 0x202e) || (nat_le 0x2066 ch && nat_le ch 0x2069))

-- such a character by its number: `\u{`, hexadecimal digits and `}`
abbrev pub numbered_char : ℕ → List ℕ
numbered_char ch = codes "\\u{" ++ (digits 16 false ch ++ codes "}")

-- a character of a name: quotes and backslashes have a backslash before them
abbrev pub shown_char : ℕ → List ℕ
shown_char ch = if (ch == 34) || (ch == 92) then 92 ∷ ch ∷ [] else (if is_hidden ch then numbered_char ch else encode_utf8 ch)

-- what says that characters are left out
abbrev pub cut_mark : Bool → List ℕ
cut_mark true = codes ".."
cut_mark false = []

-- A name between quotes. Of one with more than 60 characters the first 60 stand there, and `..` behind the last quote.
unfoldable pub shown : List ℕ → List ℕ
shown text = 34 ∷ flat_map shown_char (take 60 (chars text)) ++ 34 ∷ cut_mark (is_some (slice_get (chars text) 60))
