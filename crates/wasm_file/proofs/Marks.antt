-- Whether one of many entries is marked, as a loop finds it.
use Rattle.std.proofs.Common.{◌≡◌, ℕ, suc, Bool, true, false, ◌||◌, ◌-◌, ◌+◌, ◌≤◌, ◌<◌, List, ◌∷◌, Result, Ok, Err, refl, sym, ap, ◌∙◌, arith}
use Rattle.wasm_bytes.specs.declared.fault.ReadFault.{ReadFault}
use Rattle.wasm_bytes.specs.declared.fault.ReadFault.TheVariants as faults
use Rattle.wasm_bytes.specs.Reading.{Input, followed, entries}
use Rattle.wasm_bytes.specs.Gives.{Fails}
use Rattle.wasm_file.specs.Customs.{is_any, with_any}

either_first : (a b c : Bool) → (a || (b || c)) ≡ ((a || b) || c)
either_first true b c = refl
either_first false b c = refl

none_more : (a : Bool) → (a || false) ≡ a
none_more true = refl
none_more false = refl

regroup : (found b : Bool) (read : Result (List Bool × Input) ℕ) → with_any found (followed read (λ xs rest. Ok (b ∷ xs, rest))) ≡ with_any (found || b) read
regroup found b (Ok y) = ap (λ marked. Ok (marked, y.1)) (either_first found b (is_any y.0))
regroup found b (Err place) = refl

pub marks_more : (entry : Input → Result (Bool × Input) ℕ) (found : Bool) (count i : ℕ) (s : Input) (b : Bool) (after : Input) (total : Result (Bool × Input) ℕ) → i < count → entry s ≡ Ok (b, after)
    → with_any found (entries (count - i) entry s) ≡ total → with_any (found || b) (entries (count - (i + 1)) entry after) ≡ total
unfolding entries
marks_more entry found count i s b after total lt h so_far =
    let k : count - i ≡ suc (count - (i + 1)) = omega arith in
    let one : with_any found (entries (count - i) entry s) ≡ with_any (found || b) (entries (count - (i + 1)) entry after) = rw (k, h) (regroup found b (entries (count - (i + 1)) entry after)) in
    sym one ∙ so_far

pub marks_end : (entry : Input → Result (Bool × Input) ℕ) (e : ReadFault) (found : Bool) (count i : ℕ) (s : Input) (total : Result (Bool × Input) ℕ) → i < count → Fails e (entry s)
    → with_any found (entries (count - i) entry s) ≡ total → Fails e total
unfolding entries
marks_end entry faults.OutOfMemory found count i s total lt h so_far = tt
marks_end entry (faults.Parse place) found count i s total lt h so_far =
    let k : count - i ≡ suc (count - (i + 1)) = omega arith in
    let one : with_any found (entries (count - i) entry s) ≡ Err place = rw (k, h) refl in
    sym so_far ∙ one

pub marks_done : (entry : Input → Result (Bool × Input) ℕ) (found : Bool) (count i : ℕ) (s : Input) (total : Result (Bool × Input) ℕ) → count ≤ i → with_any found (entries (count - i) entry s) ≡ total → total ≡ Ok (found, s)
unfolding entries
marks_done entry found count i s total le so_far =
    let k : count - i ≡ 0 = omega arith in
    let one : with_any found (entries (count - i) entry s) ≡ Ok (found, s) = rw k (ap (λ marked. Ok (marked, s)) (none_more found)) in
    sym so_far ∙ one
