-- A first free name is always there, and its number is small.
use Rattle.std.proofs.Common.{◌≡◌, ℕ, ◌+◌, ◌-◌, ◌<◌, ◌≤◌, ◌^◌, List, ◌++◌, refl, ap, sym, ◌∙◌, true, false, Bool, cond, subst, arith, suc, zero, length, length-append, true≢false, inl, inr, ◌⊎◌, drop}
use Rattle.std.proofs.Math.Seq.{drop-append_seam}
use Rattle.std.proofs.lemmas.Bool.{cases_lt}
use Rattle.std.proofs.lemmas.Fmt.{decimal_injective, decimal_nonempty}
use Rattle.std.specs.Prelude.{◌&&◌, not}
use Rattle.std.specs.Ordering.{nat_cmp, eq_by_cmp}
use Rattle.std.specs.Cmp.Lexicographic.{slice_cmp, nat_list_cmp_total}
use Rattle.std.specs.Fmt.{decimal}
use Rattle.std.specs.FinSet as set
use Rattle.values.specs.TextSet.{TextSet}
use Rattle.glue_scope.specs.Scope.{IsLeastFree, IsFirstFree}
use Rattle.glue_words.specs.Ident.{numbered}
use Rattle.glue_scope.proofs.Scopes.{same_text}

apart_by : (b : Bool) (P : Type 0) → (b ≡ true → P) → (P → ⊥) → b ≡ false
apart_by true P h differ = absurd (differ (h refl))
apart_by false P h differ = refl

-- a name stays where another is taken out
kept_in : (s : TextSet) (k q : List ℕ) → (q ≡ k → ⊥) → set.contains s q ≡ true → set.contains (set.remove s k) q ≡ true
kept_in s k q differ h =
    set.contains-remove nat_list_cmp_total s k q
    ∙ ap (λ b. not b && set.contains s q) (apart_by (eq_by_cmp (slice_cmp nat_cmp) q k) (q ≡ k) (same_text q k) differ)
    ∙ h

longer : (name : List ℕ) (n : ℕ) → n < 2 ^ 64 → name ≡ numbered name n → ⊥
longer name n small e =
    let l = ap length e ∙ length-append name (decimal n) in
    let d = decimal_nonempty n small in
    omega (arith, l, d)

append_cancel : (xs ys zs : List ℕ) → xs ++ ys ≡ xs ++ zs → ys ≡ zs
append_cancel xs ys zs e = sym (drop-append_seam xs ys) ∙ ap (drop (length xs)) e ∙ drop-append_seam xs zs

other_number : (name : List ℕ) (a b : ℕ) → a < 2 ^ 64 → b < 2 ^ 64 → a < b → numbered name b ≡ numbered name a → ⊥
other_number name a b la lb less e =
    let d = decimal_injective b a lb la (append_cancel name (decimal b) (decimal a) e) in
    omega arith

not_empty : (s : TextSet) (q : List ℕ) → set.contains s q ≡ true → 1 ≤ set.len s
not_empty s q h = elim (cases_lt 0 (set.len s)) [
  | inl some ↦ some
  | inr none ↦ absurd (true≢false (sym h ∙ ap (λ (t : TextSet). set.contains t q) (set.empty_of_len s (omega arith)) ∙ set.contains-empty (slice_cmp nat_cmp) q))
]

-- a set that has a name, and the name with each of some numbers, has more names than there are numbers
taken_count : (k : ℕ) (s : TextSet) (name : List ℕ) (start : ℕ) → start + k < 2 ^ 64 → set.contains s name ≡ true → ((j : ℕ) → start ≤ j → j < start + k → set.contains s (numbered name j) ≡ true) → k + 1 ≤ set.len s
taken_count zero s name start small h taken = not_empty s name h
taken_count (suc k) s name start small h taken =
    let first = taken start (omega arith) (omega arith) in
    let rest = taken_count k (set.remove s (numbered name start)) name (start + 1) (omega arith)
    (kept_in s (numbered name start) name (longer name start (omega arith)) h)
    (λ j low high. kept_in s (numbered name start) (numbered name j) (other_number name start j (omega arith) (omega arith) (omega arith)) (taken j (omega arith) (omega arith))) in
    let l = set.len-remove nat_list_cmp_total s (numbered name start) in
    let m : set.len (set.remove s (numbered name start)) ≡ set.len s - 1 = l ∙ ap (λ b. cond b (set.len s - 1) (set.len s)) first in
    omega (arith, rest, m)

-- among the next k numbers one is free, or all are taken
Searched : TextSet → List ℕ → ℕ → ℕ → Type 0
Searched bound name start end =
    ((n : ℕ) × (n < end) × IsLeastFree bound name start n) ⊎ ((j : ℕ) → start ≤ j → j < end → set.contains bound (numbered name j) ≡ true)

one_more : (bound : TextSet) (name : List ℕ) (start end : ℕ) (there : Bool) → start ≤ end → set.contains bound (numbered name end) ≡ there → Searched bound name start end → Searched bound name start (end + 1)
unfolding Searched
one_more bound name start end there low e (inl found) = inl (found.0, omega (arith, found.1), found.2)
one_more bound name start end false low e (inr taken) = inl (end, omega arith, record { above = low; free = e; taken = taken })
one_more bound name start end true low e (inr taken) = inr (λ j above below. elim (cases_lt j end) [
  | inl less ↦ taken j above less
  | inr up ↦
      let same : end ≡ j = omega arith in subst (λ (i : ℕ). set.contains bound (numbered name i) ≡ true) same e
])

search_numbers : (bound : TextSet) (name : List ℕ) (start k : ℕ) → Searched bound name start (start + k)
unfolding Searched
search_numbers bound name start zero = inr (λ j low high. absurd (omega arith))
search_numbers bound name start (suc k) =
    let more = one_more bound name start (start + k) (set.contains bound (numbered name (start + k))) (omega arith) refl (search_numbers bound name start k) in
    let same : start + k + 1 ≡ start + suc k = omega arith in
    subst (Searched bound name start) same more

-- a name that is bound is free with a number of at most the count of bound names plus 1
pub least_free_there : (bound : TextSet) (name : List ℕ) → 2 + set.len bound < 2 ^ 64 → set.contains bound name ≡ true → (n : ℕ) × (n < 2 + set.len bound) × IsLeastFree bound name 2 n
unfolding Searched
least_free_there bound name small h = elim (search_numbers bound name 2 (set.len bound)) [
  | inl found ↦ found
  | inr taken ↦
      let many = taken_count (set.len bound) bound name 2 small h taken in absurd (omega arith)
]

either_free : (bound : TextSet) (name : List ℕ) (there : Bool) → set.contains bound name ≡ there → 2 + set.len bound < 2 ^ 64 → (answer : List ℕ) × IsFirstFree bound name answer
either_free bound name false e small = (name, inl (e, refl))
either_free bound name true e small = let n = least_free_there bound name small e in (numbered name n.0, inr (e, (n.0, refl, n.2)))

-- each name has a first free one
pub first_free_there : (bound : TextSet) (name : List ℕ) → 2 + set.len bound < 2 ^ 64 → (answer : List ℕ) × IsFirstFree bound name answer
first_free_there bound name small = either_free bound name (set.contains bound name) refl small
