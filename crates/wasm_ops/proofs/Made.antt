-- What is made of two entries that stand one behind the other.
use Rattle.std.proofs.Common.{◌≡◌, ℕ, Result, Ok, Err, refl}
use Rattle.wasm_bytes.specs.Reading.{Input, followed, pure}
use Rattle.wasm_bytes.specs.Gives.{Fails}
use Rattle.wasm_bytes.specs.declared.fault.ReadFault.{ReadFault}
use Rattle.wasm_bytes.specs.declared.fault.ReadFault.TheVariants as faults

abbrev both : {A B C : Type 0} → (A → B → C) → Result (A × Input) ℕ → (Input → Result (B × Input) ℕ) → Result (C × Input) ℕ
both make first second = followed first (λ a rest. followed (second rest) (λ b. pure (make a b)))

abbrev pair : {A B : Type 0} → Result (A × Input) ℕ → (Input → Result (B × Input) ℕ) → Result ((A × B) × Input) ℕ
pair {A = A} {B = B} first second = both {C = A × B} (λ a b. (a, b)) first second

made_behind : {A B C : Type 0} (make : A → B → C) (a : A) (second : Result (B × Input) ℕ) → followed second (λ b. pure (make a b)) ≡ followed {A = A × B} (followed second (λ b. pure (a, b))) (λ p. pure (make p.0 p.1))
made_behind make a (Ok b) = refl
made_behind make a (Err place) = refl

is_made : {A B C : Type 0} (make : A → B → C) (first : Result (A × Input) ℕ) (second : Input → Result (B × Input) ℕ) → both make first second ≡ followed (pair first second) (λ p. pure (make p.0 p.1))
is_made make (Ok a) second = made_behind make a.0 (second a.1)
is_made make (Err place) second = refl

pub made : {A B C : Type 0} (make : A → B → C) (first : Result (A × Input) ℕ) (second : Input → Result (B × Input) ℕ) (a : A) (b : B) (after : Input) → pair first second ≡ Ok ((a, b), after) → both make first second ≡ Ok (make a b, after)
made make first second a b after h = rw (is_made make first second, h) refl

pub fails_first : {A B : Type 0} (e : ReadFault) (read : Result (A × Input) ℕ) (next : A → Input → Result (B × Input) ℕ) → Fails e read → Fails e (followed read next)
fails_first faults.OutOfMemory read next h = tt
fails_first (faults.Parse place) read next h = rw h refl

pub fails_both : {A B C : Type 0} (e : ReadFault) (make : A → B → C) (first : Result (A × Input) ℕ) (second : Input → Result (B × Input) ℕ) → Fails e (pair first second) → Fails e (both make first second)
fails_both e make first second h = rw (is_made make first second) (fails_first e (pair first second) (λ p. pure (make p.0 p.1)) h)
