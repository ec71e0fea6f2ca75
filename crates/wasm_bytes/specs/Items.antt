-- Items and lists that many entries share.
use Rattle.std.specs.Prelude.{ℕ, List, Result, nat_lt, nat_le, ◌==◌}
use Rattle.std.specs.Str.{is_utf8}
use Rattle.wasm_bytes.specs.Reading.{Input, ◌>>=◌, byte, raw, allowed, entries}
use Rattle.wasm_bytes.specs.Numbers.{number32}

-- a count, at most room, and that many entries
unfoldable pub listed : {A : Type 0} → ℕ → (Input → Result (A × Input) ℕ) → Input → Result (List A × Input) ℕ
listed room entry = do
  n ← allowed (λ n. nat_le n room) number32
  entries n entry

-- a length and that many bytes, one item, which is UTF-8
unfoldable pub name : Input → Result (List ℕ × Input) ℕ
name = allowed is_utf8 (do
  n ← number32
  raw n)

-- an index below the number of its kind
unfoldable pub index : ℕ → Input → Result (ℕ × Input) ℕ
index n = allowed (λ i. nat_lt i n) number32

-- one byte of this value
unfoldable pub exactly : ℕ → Input → Result (ℕ × Input) ℕ
exactly wanted = allowed (λ b. b == wanted) byte
