-- What is written is read again, and what is read has a property.
use Rattle.std.specs.Prelude.{◌≡◌, ℕ, ◌<◌, List, ◌++◌, Result, Ok}
use Rattle.std.specs.List.{AllByRecursion}
use Rattle.wasm_bytes.specs.Reading.{Input}

-- Wherever they stand and whatever stands behind them, the bytes are read as x, and nothing more is read.
pub record Reads {A : Type 0} (reader : Input → Result (A × Input) ℕ) (bytes : List ℕ) (x : A) : Type 0 where
  pub again : (place : ℕ) (rest : List ℕ) → (after : ℕ) × (reader (record { place = place; bytes = bytes ++ rest }) ≡ Ok (x, record { place = after; bytes = rest }))

-- each is below 256
abbrev pub AreBytes : List ℕ → Type 0
AreBytes bytes = AllByRecursion (λ b. b < 256) bytes

-- Of bytes only what has a property is read, and bytes are left.
pub record Finds {A : Type 0} (reader : Input → Result (A × Input) ℕ) (P : A → Type 0) : Type 0 where
  pub found : (s t : Input) (x : A) → AreBytes s.bytes → reader s ≡ Ok (x, t) → P x × AreBytes t.bytes
