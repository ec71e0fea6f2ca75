-- Digits, and the numbers that they spell.
use Rattle.std.specs.Prelude.{ℕ, ◌+◌, ◌-◌, ◌*◌, nat_lt, nat_eq, Bool, ◌||◌, ◌&&◌, List, length, drop, Option, Some, None, if◌then◌else◌}
use Rattle.std.specs.List.{fold, starts_with}
use Rattle.std.specs.Char.{is_ascii_digit}
use Rattle.std.specs.Int.{is_in_range}

-- a decimal digit, or where that is asked for, one of base 16 in lower case
abbrev pub is_digit_of : Bool → ℕ → Bool
is_digit_of is_hex b = is_ascii_digit b || (is_hex && is_in_range 97 102 b)

-- what a digit stands for
abbrev pub digit_of : ℕ → ℕ
digit_of b = if nat_lt b 58 then b - 48 else b - 87

-- a number with a digit behind it
abbrev pub digit_added : ℕ → ℕ → ℕ → ℕ
digit_added base n b = n * base + digit_of b

-- the number that digits spell
abbrev pub number : ℕ → List ℕ → ℕ
number base digits = fold (digit_added base) 0 digits

-- what stands behind a front, where the bytes begin with it
abbrev pub behind : List ℕ → List ℕ → Option (List ℕ)
behind front bytes = if starts_with nat_eq bytes front then Some (drop (length front) bytes) else None
