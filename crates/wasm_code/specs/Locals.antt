-- Runs of locals of one type.
use Rattle.std.specs.Prelude.{ℕ, zero, suc, ◌+◌, ◌^◌, ◌&&◌, List, [], ◌∷◌, Option, Some, None, Result, nat_lt, nat_le, ◌==◌, if◌then◌else◌}
use Rattle.std.specs.List.{filter}
use Rattle.wasm_bytes.specs.Reading.{Input, ◌>>=◌, pure, allowed}
use Rattle.wasm_bytes.specs.Numbers.{number32}
use Rattle.wasm_types.specs.Types.{code_of}
use Rattle.wasm_types.specs.Entries.{val_type}
use Rattle.wasm_types.specs.declared.types.ValType.{ValType}

-- how many locals, and their type, one run after another
abbrev pub Runs : Type 0
Runs = List (ℕ × ValType)

-- how many locals a body can have, parameters among them
abbrev pub most_locals : ℕ
most_locals = 4294967295

-- so many, and a run of count behind them, where a body can have so many
abbrev pub checked_total : ℕ → ℕ → Option ℕ
checked_total before count = if nat_le (before + count) most_locals then Some (before + count) else None

-- a run behind so many parameters and locals
unfoldable pub run : ℕ → Input → Result ((ℕ × ValType) × Input) ℕ
run before = do
  count ← allowed (λ n. nat_le (before + n) most_locals) number32
  ty ← val_type
  pure (count, ty)

-- so many runs behind so many parameters and locals
unfoldable pub runs : ℕ → ℕ → Input → Result (List (ℕ × ValType) × Input) ℕ
runs zero before = pure []
runs (suc n) before = do
  r ← run before
  rs ← runs n (before + r.0)
  pure (r ∷ rs)

-- the run that stands for two of one type, where 32 bits count it
abbrev pub joined_pair : (ℕ × ValType) → (ℕ × ValType) → Option (ℕ × ValType)
joined_pair r q = if (code_of r.1 == code_of q.1) && nat_lt (r.0 + q.0) (2 ^ 32) then Some (r.0 + q.0, r.1) else None

-- a run with those of its type that follow it, and the others
abbrev pub joined_from : (ℕ × ValType) → Runs → Runs
joined_from r [] = r ∷ []
joined_from r (q ∷ qs) = elim (joined_pair r q) as (λ _. Runs) [ Some both ↦ joined_from both qs | None ↦ r ∷ joined_from q qs ]

-- neighbours of one type are joined
abbrev pub joined : Runs → Runs
joined [] = []
joined (r ∷ rs) = joined_from r rs

-- without the runs of no locals
abbrev pub without_empty : Runs → Runs
without_empty rs = filter (λ r. nat_lt 0 r.0) rs

-- runs of no locals are dropped, and then neighbouring runs of one type are joined
unfoldable pub joined_runs : Runs → Runs
joined_runs rs = joined (without_empty rs)

-- the same of runs behind one that was read before them, if any
unfoldable pub joined_behind : Option (ℕ × ValType) → Runs → Runs
joined_behind None rs = joined (without_empty rs)
joined_behind (Some r) rs = joined_from r (without_empty rs)
