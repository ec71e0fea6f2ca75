-- What a reader of the code answers, beside what reading gives.
use Rattle.std.specs.Prelude.{◌≡◌, ℕ, Result, Ok, Err}
use Rattle.wasm_bytes.specs.Reading.{Input}
use Rattle.wasm_bytes.specs.declared.fault.ReadFault.{ReadFault}
use Rattle.wasm_bytes.specs.declared.fault.ReadFault.TheVariants as faults

abbrev pub Fails : {Y : Type 0} → ReadFault → Result Y ℕ → Type 0
Fails faults.OutOfMemory read = Unit {0}
Fails (faults.Parse place) read = read ≡ Err place

-- Unless memory runs out, the answer is what reading gives, and after is what it leaves.
abbrev pub Gives : {A : Type 0} → Result A ReadFault → Input → Result (A × Input) ℕ → Type 0
Gives (Ok x) after read = read ≡ Ok (x, after)
Gives (Err e) after read = Fails e read

-- The same of an answer that is seen by a view.
abbrev pub GivesBy : {A B : Type 0} → (A → B) → Result A ReadFault → Input → Result (B × Input) ℕ → Type 0
GivesBy view (Ok x) after read = read ≡ Ok (view x, after)
GivesBy view (Err e) after read = Fails e read

-- The same of a call that changes a state, which is then as reading gives.
abbrev pub GivesState : {A : Type 0} → Result (Unit {0}) ReadFault → A → Input → Result (A × Input) ℕ → Type 0
GivesState (Ok _) state after read = read ≡ Ok (state, after)
GivesState (Err e) state after read = Fails e read

-- The same of a call that answers a value and changes a state.
abbrev pub GivesBoth : {A S : Type 0} → Result A ReadFault → S → Input → Result ((A × S) × Input) ℕ → Type 0
GivesBoth (Ok x) state after read = read ≡ Ok ((x, state), after)
GivesBoth (Err e) state after read = Fails e read

-- The same of a call that reads all of its bytes.
abbrev pub Decodes : {A : Type 0} → Result A ReadFault → Result A ℕ → Type 0
Decodes (Ok x) read = read ≡ Ok x
Decodes (Err e) read = Fails e read

-- The same of an answer that is seen by a view.
abbrev pub DecodesBy : {A B : Type 0} → (A → B) → Result A ReadFault → Result B ℕ → Type 0
DecodesBy view (Ok x) read = read ≡ Ok (view x)
DecodesBy view (Err e) read = Fails e read
