-- What a part of a symbol shows.
use Rattle.std.specs.Prelude.{ℕ, zero, suc, ◌+◌, ◌==◌, nat_lt, nat_eq, Bool, true, not, ◌&&◌, ◌||◌, List, [], ◌∷◌, ◌++◌, length, take, drop, Option, Some, None, option_map, codes, encode_utf8, encode_utf8_all, if◌then◌else◌}
use Rattle.std.specs.List.{starts_with, prefix_len}
use Rattle.std.specs.Char.{is_control}
use Rattle.std.specs.Int.{is_in_range}
use Rattle.demangle_core.specs.Reading.{is_digit_of, number, behind}

-- a code is that of a character: at most 10FFFF, and no surrogate
abbrev pub is_char : ℕ → Bool
is_char code = nat_lt code 0xD800 || is_in_range 0xE000 0x10FFFF code

-- a character that is no control character
abbrev pub is_shown : ℕ → Bool
is_shown code = is_char code && not (is_control code)

-- the character of a code, where it is shown
abbrev pub shown_char : ℕ → Option ℕ
shown_char code = if is_shown code then Some code else None

-- one to six digits of base 16 at the front of the bytes, and `$` behind them
abbrev pub is_spelled : ℕ → List ℕ → Bool
is_spelled count bytes = nat_lt 0 count && (nat_lt count 7 && starts_with nat_eq (drop count bytes) (codes "$"))

-- The character that digits and `$` at the front of the bytes spell behind `$u`, and how many bytes are read behind the `$` of the
-- front: `u`, the digits and the other `$`.
abbrev pub spelled_char : List ℕ → Option (ℕ × ℕ)
spelled_char bytes =
    let count = prefix_len (is_digit_of true) bytes in
    let code = number 16 (take count bytes) in
    if is_spelled count bytes then option_map (λ ch. (count + 2, ch)) (shown_char code) else None

abbrev pub spelled_behind : Option (List ℕ) → Option (ℕ × ℕ)
spelled_behind None = None
spelled_behind (Some bytes) = spelled_char bytes

-- the escape whose bytes stand at the front, behind a `$`: how many they are, and the character that they spell
abbrev pub escape : List ℕ → Option (ℕ × ℕ)
escape bytes =
    if starts_with nat_eq bytes (codes "SP$") then Some (3, 64)
    else (if starts_with nat_eq bytes (codes "BP$") then Some (3, 42)
    else (if starts_with nat_eq bytes (codes "RF$") then Some (3, 38)
    else (if starts_with nat_eq bytes (codes "LT$") then Some (3, 60)
    else (if starts_with nat_eq bytes (codes "GT$") then Some (3, 62)
    else (if starts_with nat_eq bytes (codes "LP$") then Some (3, 40)
    else (if starts_with nat_eq bytes (codes "RP$") then Some (3, 41)
    else (if starts_with nat_eq bytes (codes "C$") then Some (2, 44)
    else spelled_behind (behind (codes "u") bytes))))))))

-- bytes as they are, each one the character of its number
abbrev pub as_it_is : List ℕ → List ℕ
as_it_is bytes = encode_utf8_all bytes

-- what stands behind a `$`: the character of an escape, or all as it is where there is none
abbrev pub escaped : List ℕ → Option (ℕ × ℕ) → ℕ × List ℕ
escaped bytes None = (length bytes, as_it_is (36 ∷ bytes))
escaped bytes (Some e) = (e.0, encode_utf8 e.1)

-- What a byte shows, with the bytes behind it, and how many of these are read for it: `..` shows `::`, a `$` begins an escape, and any
-- other byte is shown as it is.
abbrev pub front : ℕ → List ℕ → ℕ × List ℕ
front b bytes =
    if b == 46 && starts_with nat_eq bytes (codes ".") then (1, codes "::")
    else (if b == 36 then escaped bytes (escape bytes) else (0, encode_utf8 b))

-- what bytes show, of which the first were read before
abbrev pub shown_from : ℕ → List ℕ → List ℕ
shown_from read [] = []
shown_from zero (b ∷ bytes) = (front b bytes).1 ++ shown_from (front b bytes).0 bytes
shown_from (suc read) (b ∷ bytes) = shown_from read bytes

-- a part without the `_` that stands before a `$` at its front
abbrev pub without_underscore : List ℕ → List ℕ
without_underscore part = if starts_with nat_eq part (codes "_$") then drop 1 part else part

-- what a part shows
abbrev pub shown_part : List ℕ → List ℕ
shown_part part = shown_from 0 (without_underscore part)
