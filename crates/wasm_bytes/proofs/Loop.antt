-- Reading entries one after another, as a loop does.
use Rattle.std.proofs.Common.{drop, get_or, ◌≡◌, ℕ, suc, ◌-◌, ◌+◌, ◌≤◌, ◌<◌, zero, length, Option, Some, None, List, [], ◌∷◌, ◌++◌, Result, Ok, Err, refl, sym, ap, ◌∙◌, append_assoc, arith}
use Rattle.std.proofs.lemmas.List.{append-nil, drop_more, drop_all}
use Rattle.std.proofs.lemmas.Bool.{ne_eqb}
use Rattle.wasm_bytes.specs.declared.fault.ReadFault.{ReadFault}
use Rattle.wasm_bytes.specs.declared.fault.ReadFault.TheVariants as faults
use Rattle.wasm_bytes.specs.Reading.{for_each, Input, followed, entries, until_end, collected, end_of}
use Rattle.wasm_bytes.specs.Gives.{Fails}

-- what was read before, and what is still read
abbrev pub with_front : {A : Type 0} → List A → Result (List A × Input) ℕ → Result (List A × Input) ℕ
with_front front read = followed read (λ xs rest. Ok (front ++ xs, rest))

pub regroup : {A : Type 0} (front : List A) (x : A) (read : Result (List A × Input) ℕ) → with_front front (followed read (λ xs rest. Ok (x ∷ xs, rest))) ≡ with_front (front ++ x ∷ []) read
regroup front x (Ok y) = ap (λ xs. Ok (xs, y.1)) (simp append_assoc)
regroup front x (Err place) = refl

pub goes_on : {A : Type 0} (entry : Input → Result (A × Input) ℕ) (front : List A) (count i : ℕ) (s : Input) (x : A) (after : Input) (total : Result (List A × Input) ℕ) → i < count → entry s ≡ Ok (x, after)
    → with_front front (entries (count - i) entry s) ≡ total → with_front (front ++ x ∷ []) (entries (count - (i + 1)) entry after) ≡ total
unfolding entries
goes_on entry front count i s x after total lt h so_far =
    let k : count - i ≡ suc (count - (i + 1)) = omega arith in
    let one : with_front front (entries (count - i) entry s) ≡ with_front (front ++ x ∷ []) (entries (count - (i + 1)) entry after) = rw (k, h) (regroup front x (entries (count - (i + 1)) entry after)) in
    sym one ∙ so_far

pub ends : {A : Type 0} (entry : Input → Result (A × Input) ℕ) (e : ReadFault) (front : List A) (count i : ℕ) (s : Input) (total : Result (List A × Input) ℕ) → i < count → Fails e (entry s)
    → with_front front (entries (count - i) entry s) ≡ total → Fails e total
unfolding entries
ends entry faults.OutOfMemory front count i s total lt h so_far = tt
ends entry (faults.Parse place) front count i s total lt h so_far =
    let k : count - i ≡ suc (count - (i + 1)) = omega arith in
    let one : with_front front (entries (count - i) entry s) ≡ Err place = rw (k, h) refl in
    sym so_far ∙ one

pub is_done : {A : Type 0} (entry : Input → Result (A × Input) ℕ) (front : List A) (count i : ℕ) (s : Input) (total : Result (List A × Input) ℕ) → count ≤ i → with_front front (entries (count - i) entry s) ≡ total → total ≡ Ok (front, s)
unfolding entries
is_done entry front count i s total le so_far =
    let k : count - i ≡ 0 = omega arith in
    let one : with_front front (entries (count - i) entry s) ≡ Ok (front, s) = rw k (ap (λ xs. Ok (xs, s)) (append-nil front)) in
    sym so_far ∙ one

-- ---- step by step up to the end

pub until_stops : {A : Type 0} (n : ℕ) (step : A → Input → Result (A × Input) ℕ) (x : A) (s : Input) → length s.bytes ≡ 0 → until_end n step x s ≡ Ok (x, s)
unfolding until_end
until_stops zero step x s none = refl
until_stops (suc n) step x s none = rw none refl

pub until_out : {A : Type 0} (n i : ℕ) (step : A → Input → Result (A × Input) ℕ) (x : A) (s : Input) → n ≤ i → until_end (n - i) step x s ≡ Ok (x, s)
unfolding until_end
until_out n i step x s le = let k : n - i ≡ 0 = omega arith in rw k refl

pub until_goes_on : {A : Type 0} (n i : ℕ) (step : A → Input → Result (A × Input) ℕ) (x : A) (s : Input) (y : A) (t : Input) → i < n → (length s.bytes ≡ 0 → ⊥) → step x s ≡ Ok (y, t) → until_end (n - i) step x s ≡ until_end (n - (i + 1)) step y t
unfolding until_end
until_goes_on n i step x s y t lt some h =
    let k : n - i ≡ suc (n - (i + 1)) = omega arith in
    rw (k, ne_eqb (length s.bytes) 0 some, h) refl

pub until_ends : {A : Type 0} (n i : ℕ) (step : A → Input → Result (A × Input) ℕ) (x : A) (s : Input) (e : ReadFault) → i < n → (length s.bytes ≡ 0 → ⊥) → Fails e (step x s) → Fails e (until_end (n - i) step x s)
unfolding until_end
until_ends n i step x s faults.OutOfMemory lt some h = tt
until_ends n i step x s (faults.Parse place) lt some h =
    let k : n - i ≡ suc (n - (i + 1)) = omega arith in
    rw (k, ne_eqb (length s.bytes) 0 some, h) refl

-- ---- entries up to the first step that gives none

pub collects_more : {A S : Type 0} (step : S → Input → Result ((Option A × S) × Input) ℕ) (front : List A) (n i : ℕ) (state : S) (s : Input) (x : A) (next : S) (t : Input) (total : Result (List A × Input) ℕ) → i < n → step state s ≡ Ok ((Some x, next), t)
    → with_front front (collected (n - i) step state s) ≡ total → with_front (front ++ x ∷ []) (collected (n - (i + 1)) step next t) ≡ total
unfolding collected
collects_more step front n i state s x next t total lt h so_far =
    let k : n - i ≡ suc (n - (i + 1)) = omega arith in
    let one : with_front front (collected (n - i) step state s) ≡ with_front (front ++ x ∷ []) (collected (n - (i + 1)) step next t) = rw (k, h) (regroup front x (collected (n - (i + 1)) step next t)) in
    sym one ∙ so_far

pub collects_all : {A S : Type 0} (step : S → Input → Result ((Option A × S) × Input) ℕ) (front : List A) (n i : ℕ) (state : S) (s : Input) (next : S) (t : Input) (total : Result (List A × Input) ℕ) → i < n → step state s ≡ Ok ((None, next), t)
    → with_front front (collected (n - i) step state s) ≡ total → total ≡ Ok (front, t)
unfolding collected
collects_all step front n i state s next t total lt h so_far =
    let k : n - i ≡ suc (n - (i + 1)) = omega arith in
    let one : with_front front (collected (n - i) step state s) ≡ Ok (front, t) = rw (k, h) (ap (λ xs. Ok (xs, t)) (append-nil front)) in
    sym so_far ∙ one

pub collects_fault : {A S : Type 0} (step : S → Input → Result ((Option A × S) × Input) ℕ) (e : ReadFault) (front : List A) (n i : ℕ) (state : S) (s : Input) (total : Result (List A × Input) ℕ) → i < n → Fails e (step state s)
    → with_front front (collected (n - i) step state s) ≡ total → Fails e total
unfolding collected
collects_fault step faults.OutOfMemory front n i state s total lt h so_far = tt
collects_fault step (faults.Parse place) front n i state s total lt h so_far =
    let k : n - i ≡ suc (n - (i + 1)) = omega arith in
    let one : with_front front (collected (n - i) step state s) ≡ Err place = rw (k, h) refl in
    sym so_far ∙ one

pub collects_out : {A S : Type 0} (step : S → Input → Result ((Option A × S) × Input) ℕ) (front : List A) (n i : ℕ) (state : S) (s : Input) (total : Result (List A × Input) ℕ) → n ≤ i → with_front front (collected (n - i) step state s) ≡ total → total ≡ Err (end_of s)
unfolding collected
collects_out step front n i state s total le so_far =
    let k : n - i ≡ 0 = omega arith in
    let one : with_front front (collected (n - i) step state s) ≡ Err (end_of s) = rw k refl in
    sym so_far ∙ one

-- ---- an entry for each of these

pub each_more : {A B : Type 0} (entry : A → Input → Result (B × Input) ℕ) (xs : List A) (i : ℕ) (d : A) (front : List B) (s : Input) (y : B) (t : Input) (total : Result (List B × Input) ℕ) → i < length xs → entry (get_or xs i d) s ≡ Ok (y, t)
    → with_front front (for_each (drop i xs) entry s) ≡ total → with_front (front ++ y ∷ []) (for_each (drop (i + 1) xs) entry t) ≡ total
unfolding for_each
each_more entry xs i d front s y t total lt h so_far =
    let one : with_front front (for_each (drop i xs) entry s) ≡ with_front (front ++ y ∷ []) (for_each (drop (i + 1) xs) entry t) = rw (drop_more xs i d lt, h) (regroup front y (for_each (drop (i + 1) xs) entry t)) in
    sym one ∙ so_far

pub each_ends : {A B : Type 0} (entry : A → Input → Result (B × Input) ℕ) (xs : List A) (i : ℕ) (d : A) (e : ReadFault) (front : List B) (s : Input) (total : Result (List B × Input) ℕ) → i < length xs → Fails e (entry (get_or xs i d) s)
    → with_front front (for_each (drop i xs) entry s) ≡ total → Fails e total
unfolding for_each
each_ends entry xs i d faults.OutOfMemory front s total lt h so_far = tt
each_ends entry xs i d (faults.Parse place) front s total lt h so_far =
    let one : with_front front (for_each (drop i xs) entry s) ≡ Err place = rw (drop_more xs i d lt, h) refl in
    sym so_far ∙ one

pub each_done : {A B : Type 0} (entry : A → Input → Result (B × Input) ℕ) (xs : List A) (i : ℕ) (front : List B) (s : Input) (total : Result (List B × Input) ℕ) → length xs ≤ i → with_front front (for_each (drop i xs) entry s) ≡ total → total ≡ Ok (front, s)
unfolding for_each
each_done entry xs i front s total le so_far =
    let one : with_front front (for_each (drop i xs) entry s) ≡ Ok (front, s) = rw (drop_all i xs le) (ap (λ ys. Ok (ys, s)) (append-nil front)) in
    sym so_far ∙ one
