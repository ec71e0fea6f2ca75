-- Unsigned LEB128.
use Rattle.std.specs.Prelude.{ℕ, zero, suc, ◌+◌, ◌-◌, ◌*◌, ◌/◌, ◌%◌, List, [], ◌∷◌, Result, nat_lt, if◌then◌else◌}
use Rattle.wasm_bytes.specs.Reading.{Input, ◌>>=◌, pure, fault, byte}

-- A number that begins at start, with at most so many bytes behind its next one. Each byte has seven bits, the low
-- ones first, and 128 more where another follows. Of the last possible byte only values below last are allowed.
unfoldable pub unsigned_from : ℕ → ℕ → ℕ → Input → Result (ℕ × Input) ℕ
unsigned_from start zero last = do
  b ← byte
  if nat_lt b last then pure b else fault start
unsigned_from start (suc more) last = do
  b ← byte
  if nat_lt b 128 then pure b else (do
    high ← unsigned_from start more last
    pure (b - 128 + 128 * high))

-- a number of 32 bits
unfoldable pub number32 : Input → Result (ℕ × Input) ℕ
number32 s = unsigned_from s.place 4 16 s

-- a number of 64 bits
unfoldable pub number64 : Input → Result (ℕ × Input) ℕ
number64 s = unsigned_from s.place 9 2 s

-- the shortest form of a number, in at most so many bytes behind the first
unfoldable pub shortest : ℕ → ℕ → List ℕ
shortest zero n = n ∷ []
shortest (suc more) n = if nat_lt n 128 then n ∷ [] else (n % 128 + 128) ∷ shortest more (n / 128)

-- the shortest form of a number of at most 64 bits
unfoldable pub number_bytes : ℕ → List ℕ
number_bytes n = shortest 9 n
