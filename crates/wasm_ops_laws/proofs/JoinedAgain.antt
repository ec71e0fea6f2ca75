-- Joined runs stay as they are, and have as many locals as the runs that they stand for.
use Rattle.std.proofs.Common.{◌≡◌, ℕ, ◌+◌, ◌<◌, ◌≤◌, ◌^◌, Bool, true, false, ◌&&◌, [], ◌∷◌, length, Option, Some, None, refl, sym, ap, ◌∙◌, arith, inl, inr, ltb, eqb, ◌==◌, if◌then◌else◌}
use Rattle.std.specs.List.{sum_by, AllByRecursion}
use Rattle.std.proofs.lemmas.Bool.{le-ltb, lt-ltb, ltb-false, cases_lt, cases_Bool}
use Rattle.std.proofs.lemmas.List.Sums.{sum_by-cons}
use Rattle.wasm_types.specs.Types.{code_of}
use Rattle.wasm_types.specs.declared.types.ValType.{ValType}
use Rattle.wasm_code.specs.Locals.{Runs, joined_from, joined, without_empty, joined_runs}

abbrev can_join : ℕ × ValType → ℕ × ValType → Bool
can_join q r = (code_of q.1 == code_of r.1) && ltb (q.0 + r.0) (2 ^ 32)

-- ---- one run or two

abbrev pair_if : ℕ × ValType → ℕ × ValType → Bool → Option (ℕ × ValType)
pair_if q r t = if t then Some (q.0 + r.0, q.1) else None

choice : (q r : ℕ × ValType) (rs : Runs) (t : Bool) → can_join q r ≡ t → joined_from q (r ∷ rs) ≡ elim (pair_if q r t) as (λ _. Runs) [ Some both ↦ joined_from both rs | None ↦ q ∷ joined_from r rs ]
choice q r rs t is = ap (λ t. elim (pair_if q r t) as (λ _. Runs) [ Some both ↦ joined_from both rs | None ↦ q ∷ joined_from r rs ]) is

joins_on : (q r : ℕ × ValType) (rs : Runs) → can_join q r ≡ true → joined_from q (r ∷ rs) ≡ joined_from (q.0 + r.0, q.1) rs
joins_on q r rs is = choice q r rs true is

joins_not : (q r : ℕ × ValType) (rs : Runs) → can_join q r ≡ false → joined_from q (r ∷ rs) ≡ q ∷ joined_from r rs
joins_not q r rs is = choice q r rs false is

-- the first of joined runs has the type of the first run, and no fewer locals
first_run : (q : ℕ × ValType) (qs : Runs) → (h : ℕ × ValType) × (t : Runs) × (joined_from q qs ≡ h ∷ t) × (h.1 ≡ q.1) × (q.0 ≤ h.0)
first_run q [] = (q, [], refl, refl, omega arith)
first_run q (r ∷ qs) = elim (cases_Bool (can_join q r)) [
  | inl is ↦ let i = first_run (q.0 + r.0, q.1) qs in (i.0, i.1, joins_on q r qs is ∙ i.2, i.3, omega (arith, i.4))
  | inr is ↦ (q, joined_from r qs, joins_not q r qs is, refl, omega arith)
]

-- what can't be joined with a run can't be joined with a longer one
still_apart : (q r h : ℕ × ValType) → can_join q r ≡ false → h.1 ≡ r.1 → r.0 ≤ h.0 → can_join q h ≡ false
still_apart q r h is same le = elim (cases_Bool (eqb (code_of q.1) (code_of r.1))) [
  | inl alike ↦
      let past : ltb (q.0 + r.0) (2 ^ 32) ≡ false = rw alike at is in
      rw (same, alike) (le-ltb (q.0 + h.0) (2 ^ 32) (omega (arith, le, ltb-false (q.0 + r.0) (2 ^ 32) past)))
  | inr differ ↦ rw (same, differ) refl
]

joined_again : (q : ℕ × ValType) (qs : Runs) → joined (joined_from q qs) ≡ joined_from q qs
joined_again q [] = refl
joined_again q (r ∷ qs) = elim (cases_Bool (can_join q r)) [
  | inl is ↦ rw (joins_on q r qs is) (joined_again (q.0 + r.0, q.1) qs)
  | inr is ↦
      let i = first_run r qs in
      let rest : joined_from i.0 i.1 ≡ i.0 ∷ i.1 = rw i.2 at (joined_again r qs) in
      rw (joins_not q r qs is, i.2) (joins_not q i.0 i.1 (still_apart q r i.0 is i.3 i.4) ∙ ap (λ xs. q ∷ xs) rest)
]

-- ---- none is empty

abbrev AreSome : Runs → Type 0
AreSome rs = AllByRecursion (λ r. 0 < r.0) rs

some_left : (rs : Runs) → AreSome (without_empty rs)
some_left [] = tt
some_left (r ∷ rs) = elim (cases_lt 0 r.0) [
  | inl some ↦ rw (lt-ltb 0 r.0 some) (some, some_left rs)
  | inr none ↦ rw (le-ltb 0 r.0 none) (some_left rs)
]

some_joined : (q : ℕ × ValType) (qs : Runs) → 0 < q.0 → AreSome qs → AreSome (joined_from q qs)
some_joined q [] some all = (some, tt)
some_joined q (r ∷ qs) some all = elim (cases_Bool (can_join q r)) [
  | inl is ↦ rw (joins_on q r qs is) (some_joined (q.0 + r.0, q.1) qs (omega (arith, some)) all.1)
  | inr is ↦ rw (joins_not q r qs is) (some, some_joined r qs all.0 all.1)
]

none_left_out : (rs : Runs) → AreSome rs → without_empty rs ≡ rs
none_left_out [] all = refl
none_left_out (r ∷ rs) all = rw (lt-ltb 0 r.0 all.0) (ap (λ xs. r ∷ xs) (none_left_out rs all.1))

some_in : (rs : Runs) → AreSome rs → AreSome (joined rs)
some_in [] all = tt
some_in (r ∷ rs) all = some_joined r rs all.0 all.1

joined_twice : (rs : Runs) → joined (joined rs) ≡ joined rs
joined_twice [] = refl
joined_twice (r ∷ rs) = joined_again r rs

pub joined_runs_again : (rs : Runs) → joined_runs (joined_runs rs) ≡ joined_runs rs
unfolding joined_runs
joined_runs_again rs = rw (none_left_out (joined (without_empty rs)) (some_in (without_empty rs) (some_left rs))) (joined_twice (without_empty rs))

-- ---- how many locals

sum_joined : (q : ℕ × ValType) (qs : Runs) → sum_by (λ r. r.0) (joined_from q qs) ≡ q.0 + sum_by (λ r. r.0) qs
sum_joined q [] = sum_by-cons (λ r. r.0) q []
sum_joined q (r ∷ qs) = elim (cases_Bool (can_join q r)) [
  | inl is ↦ rw (joins_on q r qs is, sum_joined (q.0 + r.0, q.1) qs) (omega (arith, sum_by-cons (λ r. r.0) r qs))
  | inr is ↦ rw (joins_not q r qs is) (omega (arith, sum_by-cons (λ r. r.0) q (joined_from r qs), sum_joined r qs, sum_by-cons (λ r. r.0) r qs))
]

sum_some : (rs : Runs) → sum_by (λ r. r.0) (without_empty rs) ≡ sum_by (λ r. r.0) rs
sum_some [] = refl
sum_some (r ∷ rs) = elim (cases_lt 0 r.0) [
  | inl some ↦ rw (lt-ltb 0 r.0 some) (omega (arith, sum_by-cons (λ r. r.0) r (without_empty rs), sum_by-cons (λ r. r.0) r rs, sum_some rs))
  | inr none ↦ rw (le-ltb 0 r.0 none) (omega (arith, none, sum_by-cons (λ r. r.0) r rs, sum_some rs))
]

sum_in : (rs : Runs) → sum_by (λ r. r.0) (joined rs) ≡ sum_by (λ r. r.0) rs
sum_in [] = refl
sum_in (r ∷ rs) = sum_joined r rs ∙ sym (sum_by-cons (λ r. r.0) r rs)

pub sum_of_joined_runs : (rs : Runs) → sum_by (λ r. r.0) (joined_runs rs) ≡ sum_by (λ r. r.0) rs
unfolding joined_runs
sum_of_joined_runs rs = sum_in (without_empty rs) ∙ sum_some rs

few_some : (rs : Runs) → AreSome rs → length rs ≤ sum_by (λ r. r.0) rs
few_some [] all = omega arith
few_some (r ∷ rs) all = omega (arith, all.0, few_some rs all.1, sum_by-cons (λ r. r.0) r rs)

-- there are no more runs than locals
pub few_runs : (rs : Runs) → length (joined_runs rs) ≤ sum_by (λ r. r.0) (joined_runs rs)
unfolding joined_runs
few_runs rs = few_some (joined (without_empty rs)) (some_in (without_empty rs) (some_left rs))
