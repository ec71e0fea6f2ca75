-- Runs of locals, one after another, as a loop does.
use Rattle.std.proofs.Common.{drop, length, Bool, true, false, if◌then◌else◌, nat_le, rules, lt-ltb, Option, Some, None, append_assoc, ◌≡◌, ℕ, suc, ◌-◌, ◌+◌, ◌≤◌, ◌<◌, [], ◌∷◌, ◌++◌, Result, Ok, Err, refl, sym, ap, ◌∙◌, arith}
use Rattle.std.proofs.lemmas.List.{append-nil, drop_all}
use Rattle.wasm_bytes.specs.declared.fault.ReadFault.{ReadFault}
use Rattle.wasm_bytes.specs.declared.fault.ReadFault.TheVariants as faults
use Rattle.wasm_bytes.specs.Reading.{Input}
use Rattle.wasm_bytes.specs.Gives.{Fails}
use Rattle.wasm_bytes.proofs.Loop.{with_front, regroup}
use Rattle.wasm_code.specs.Locals.{checked_total, most_locals, Runs, run, runs, joined_pair, joined_from, without_empty, joined_runs, joined_behind}
use Rattle.wasm_types.specs.declared.types.ValType.{ValType}

pub runs_more : (front : Runs) (count i before : ℕ) (s : Input) (r : ℕ × ValType) (after : Input) (total : Result (Runs × Input) ℕ) → i < count → run before s ≡ Ok (r, after)
    → with_front front (runs (count - i) before s) ≡ total → with_front (front ++ r ∷ []) (runs (count - (i + 1)) (before + r.0) after) ≡ total
unfolding runs
runs_more front count i before s r after total lt h so_far =
    let k : count - i ≡ suc (count - (i + 1)) = omega arith in
    let one : with_front front (runs (count - i) before s) ≡ with_front (front ++ r ∷ []) (runs (count - (i + 1)) (before + r.0) after) = rw (k, h) (regroup front r (runs (count - (i + 1)) (before + r.0) after)) in
    sym one ∙ so_far

pub runs_fault : (e : ReadFault) (front : Runs) (count i before : ℕ) (s : Input) (total : Result (Runs × Input) ℕ) → i < count → Fails e (run before s)
    → with_front front (runs (count - i) before s) ≡ total → Fails e total
unfolding runs
runs_fault faults.OutOfMemory front count i before s total lt h so_far = tt
runs_fault (faults.Parse place) front count i before s total lt h so_far =
    let k : count - i ≡ suc (count - (i + 1)) = omega arith in
    let one : with_front front (runs (count - i) before s) ≡ Err place = rw (k, h) refl in
    sym so_far ∙ one

pub runs_done : (front : Runs) (count i before : ℕ) (s : Input) (total : Result (Runs × Input) ℕ) → count ≤ i → with_front front (runs (count - i) before s) ≡ total → total ≡ Ok (front, s)
unfolding runs
runs_done front count i before s total le so_far =
    let k : count - i ≡ 0 = omega arith in
    let one : with_front front (runs (count - i) before s) ≡ Ok (front, s) = rw k (ap (λ xs. Ok (xs, s)) (append-nil front)) in
    sym so_far ∙ one

-- ---- joining

pub skips : (last : Option (ℕ × ValType)) (r : ℕ × ValType) (rs : Runs) → r.0 ≡ 0 → joined_behind last rs ≡ joined_behind last (r ∷ rs)
unfolding joined_behind
skips None r rs none = rw none refl
skips (Some q) r rs none = rw none refl

pub begins : (r : ℕ × ValType) (rs : Runs) → 0 < r.0 → joined_behind (Some r) rs ≡ joined_behind None (r ∷ rs)
unfolding joined_behind
begins r rs some = rw (lt-ltb 0 r.0 some) refl

-- the choice between one run and two
choice : (q r : ℕ × ValType) (rs : Runs) (o : Option (ℕ × ValType)) → joined_pair q r ≡ o → joined_from q (r ∷ rs) ≡ elim o as (λ _. Runs) [ Some both ↦ joined_from both rs | None ↦ q ∷ joined_from r rs ]
choice q r rs o is = ap (λ o. elim o as (λ _. Runs) [ Some both ↦ joined_from both rs | None ↦ q ∷ joined_from r rs ]) is

pub joins : (q r both : ℕ × ValType) (rs : Runs) → 0 < r.0 → joined_pair q r ≡ Some both → joined_behind (Some both) rs ≡ joined_behind (Some q) (r ∷ rs)
unfolding joined_behind
joins q r both rs some is = rw (lt-ltb 0 r.0 some) (sym (choice q r (without_empty rs) (Some both) is))

pub parts : (front : Runs) (q r : ℕ × ValType) (rs : Runs) → 0 < r.0 → joined_pair q r ≡ None → (front ++ q ∷ []) ++ joined_behind (Some r) rs ≡ front ++ joined_behind (Some q) (r ∷ rs)
unfolding joined_behind
parts front q r rs some is =
    let apart : q ∷ joined_from r (without_empty rs) ≡ joined_from q (r ∷ without_empty rs) = sym (choice q r (without_empty rs) None is) in
    rw (lt-ltb 0 r.0 some) (append_assoc front (q ∷ []) (joined_from r (without_empty rs)) ∙ ap (λ xs. front ++ xs) apart)

pub first_of_runs : (rs : Runs) → joined_behind None rs ≡ joined_runs rs
unfolding joined_behind joined_runs
first_of_runs rs = refl

pub last_of_runs : (r : ℕ × ValType) → joined_behind (Some r) [] ≡ r ∷ []
unfolding joined_behind
last_of_runs r = refl

pub none_of_runs : joined_behind None [] ≡ []
unfolding joined_behind
none_of_runs = refl

pub ends_with_none : (done : Runs) (last : Option (ℕ × ValType)) (i : ℕ) (rs total : Runs) → length rs ≤ i → last ≡ None → done ++ joined_behind last (drop i rs) ≡ total → done ≡ total
ends_with_none done last i rs total le is so_far =
    let one : done ++ joined_behind last (drop i rs) ≡ done = rw (is, drop_all i rs le, none_of_runs) (append-nil done) in
    sym one ∙ so_far

pub ends_with_run : (done : Runs) (last : Option (ℕ × ValType)) (r : ℕ × ValType) (i : ℕ) (rs total : Runs) → length rs ≤ i → last ≡ Some r → done ++ joined_behind last (drop i rs) ≡ total → done ++ r ∷ [] ≡ total
ends_with_run done last r i rs total le is so_far =
    let one : done ++ joined_behind last (drop i rs) ≡ done ++ r ∷ [] = rw (is, drop_all i rs le, last_of_runs r) refl in
    sym one ∙ so_far

some_sum : (fits : Bool) (total sum : ℕ) → Some sum ≡ (if fits then Some total else None) → sum ≡ total
some_sum true total sum h = search rules
some_sum false total sum h = search rules

pub sum_is : (before count sum : ℕ) → Some sum ≡ checked_total before count → sum ≡ before + count
sum_is before count sum h = some_sum (nat_le (before + count) most_locals) (before + count) sum h
