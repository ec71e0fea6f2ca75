-- Signed LEB128.
use Rattle.std.specs.Prelude.{ℕ, zero, suc, ◌+◌, ◌-◌, ℤ, pos, ◌+ℤ◌, ◌-ℤ◌, ◌*ℤ◌, ◌≤ℤ◌, ◌<ℤ◌, Bool, ◌||◌, ◌&&◌, Result, nat_lt, nat_le, if◌then◌else◌}
use Rattle.std.specs.Prelude.{negsuc, List, [], ◌∷◌, int_le, int_lt, unsigned_abs}
use Rattle.std.specs.Int.{int_div_euclid, int_rem_euclid}
use Rattle.wasm_bytes.specs.Reading.{Input, ◌>>=◌, pure, fault, byte}

-- seven bits with a sign
abbrev pub signed_digit : ℕ → ℤ
signed_digit b = if nat_lt b 64 then pos b else (pos b -ℤ pos 128)

-- the unused bits of a last byte repeat its sign
abbrev pub last_allowed : ℕ → ℕ → Bool
last_allowed room b = nat_lt b room || nat_le (128 - room) b

-- Like an unsigned number. Of the last possible byte only values whose unused bits repeat the sign are allowed.
unfoldable pub signed_from : ℕ → ℕ → ℕ → Input → Result (ℤ × Input) ℕ
signed_from start zero room = do
  b ← byte
  if nat_lt b 128 && last_allowed room b then pure (signed_digit b) else fault start
signed_from start (suc more) room = do
  b ← byte
  if nat_lt b 128 then pure (signed_digit b) else (do
    high ← signed_from start more room
    pure (pos (b - 128) +ℤ (pos 128 *ℤ high)))

-- a signed number of 32 bits
unfoldable pub signed32 : Input → Result (ℤ × Input) ℕ
signed32 s = signed_from s.place 4 8 s

-- a signed number of 33 bits
unfoldable pub signed33 : Input → Result (ℤ × Input) ℕ
signed33 s = signed_from s.place 4 16 s

-- a signed number of 64 bits
unfoldable pub signed64 : Input → Result (ℤ × Input) ℕ
signed64 s = signed_from s.place 9 1 s

-- within so many on each side of 0
abbrev pub IsWithin : ℕ → ℤ → Type 0
IsWithin n z = ((pos 0 -ℤ pos n) ≤ℤ z) × (z <ℤ pos n)

-- the low seven bits
abbrev pub low_bits : ℤ → ℕ
low_bits z = unsigned_abs (int_rem_euclid z (pos 128))

-- seven bits with a sign are enough
abbrev pub is_digit : ℤ → Bool
is_digit z = int_le (negsuc 63) z && int_lt z (pos 64)

-- the shortest form of a signed number, in at most so many bytes behind the first
unfoldable pub shortest_signed : ℕ → ℤ → List ℕ
shortest_signed zero z = low_bits z ∷ []
shortest_signed (suc more) z = if is_digit z then low_bits z ∷ [] else (low_bits z + 128) ∷ shortest_signed more (int_div_euclid z (pos 128))

-- the shortest form of a signed number of at most 64 bits
unfoldable pub signed_bytes : ℤ → List ℕ
signed_bytes z = shortest_signed 9 z
