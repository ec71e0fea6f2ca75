-- Entries are numbered in the order in which they are written, those that come first before the others.
use Rattle.std.proofs.Common.{◌≡◌, ℕ, suc, ◌+◌, Bool, true, cond, List, [], ◌∷◌, ◌++◌, length, map, take, count_by, Option, Some, None, refl, sym, ap, subst, ◌∙◌, arith, inl, inr}
use Rattle.std.specs.Prelude.{not, slice_get}
use Rattle.std.specs.List.{filter}
use Rattle.std.proofs.lemmas.Bool.{cases_Bool}
use Rattle.std.proofs.lemmas.List.{take_at, map-append}
use Rattle.wasm_ops.specs.Numbers.{number_at}
use Rattle.wasm_emission.specs.Emission.{live}
use Rattle.wasm_collect.specs.Reach.{entry_of, places}
use Rattle.wasm_emission.specs.Renumbering.{is_first, is_other, numbers, never}
use Rattle.wasm_core_laws.specs.Again.{in_order, all_there}
use Rattle.wasm_core_laws.proofs.Everywhere.{counted_more}
use Rattle.wasm_core_laws.proofs.Numbers.{at_end, number_is, passing_counted, none_first, all_others}

-- ---- numbers

-- where none comes first, a live entry's number is how many live ones stand before it
pub number_behind : {A : Type 0} (xs front rest : List (Option A)) (x : A) → xs ≡ front ++ Some x ∷ rest → number_at (numbers never xs) (length front) ≡ length (live front)
number_behind {A = A} xs front rest x is =
    let all : List (Option A) = front ++ Some x ∷ rest in
    let first : count_by (is_first never) all ≡ 0 = sym (passing_counted never (is_first never) refl (λ y. refl) all) ∙ ap length (none_first (live all)) in
    let others : count_by (is_other never) front ≡ length (live front) = sym (passing_counted (λ y. not (never y)) (is_other never) refl (λ y. refl) front) ∙ ap length (all_others (live front)) in
    let other : count_by (is_other never) (take (length front) all) ≡ length (live front) = ap (count_by (is_other never)) (take_at front (Some x ∷ rest) (length front) refl) ∙ others in
    ap (λ ys. number_at (numbers never ys) (length front)) is ∙ number_is never all (length front) x (ap entry_of (at_end front (Some x) rest))
    ∙ ap (λ n. n + count_by (is_other never) (take (length front) all)) first ∙ ap (λ n. 0 + n) other ∙ omega arith

-- ---- places of those that come first

-- the entry at a place, counted from k, comes first, and so many stand before it that do
pub record IsNth {A : Type 0} (test : A → Bool) (k : ℕ) (xs : List (Option A)) (p n : ℕ) : Type 0 where
  pub place : ℕ
  pub entry : A
  pub is : p ≡ k + place
  pub stands : slice_get xs place ≡ Some (Some entry)
  pub first : test entry ≡ true
  pub before : count_by (is_first test) (take place xs) ≡ n

-- behind an entry that may come first
nth_later : {A : Type 0} (test : A → Bool) (k : ℕ) (x : Option A) (xs : List (Option A)) (p n : ℕ) → IsNth test (k + 1) xs p n → IsNth test k (x ∷ xs) p (cond (is_first test x) 1 0 + n)
nth_later test k x xs p n h = record {
  place = suc h.place;
  entry = h.entry;
  is = omega (arith, h.is);
  stands = h.stands;
  first = h.first;
  before = counted_more (is_first test) (is_first test x) x (take h.place xs) refl ∙ ap (λ a. cond (is_first test x) 1 0 + a) h.before;
}

-- behind an entry that comes first, or at it
nth_first : {A : Type 0} (test : A → Bool) (k : ℕ) (x : A) (xs : List (Option A)) (ps front rest : List ℕ) (p : ℕ) → test x ≡ true → k ∷ ps ≡ front ++ p ∷ rest → ((front : List ℕ) → ps ≡ front ++ p ∷ rest → IsNth test (k + 1) xs p (length front)) → IsNth test k (Some x ∷ xs) p (length front)
nth_first test k x xs ps [] rest p first is later = record { place = 0; entry = x; is = (let same : k ≡ p = cc in omega (arith, same)); stands = refl; first = first; before = refl }
nth_first test k x xs ps (f ∷ front) rest p first is later =
    let same : ps ≡ front ++ p ∷ rest = cc in
    let one : cond (test x) 1 0 + length front ≡ suc (length front) = rw first (omega arith) in
    subst (λ n. IsNth test k (Some x ∷ xs) p n) one (nth_later test k (Some x) xs p (length front) (later front same))

-- the n-th of the places is that of the n-th entry that comes first
nth_place : {A : Type 0} (test : A → Bool) (k : ℕ) (xs : List (Option A)) (front rest : List ℕ) (p : ℕ) → places test k xs ≡ front ++ p ∷ rest → IsNth test k xs p (length front)
unfolding places
nth_place test k [] [] rest p is = absurd (cc)
nth_place test k [] (f ∷ front) rest p is = absurd (cc)
nth_place test k (None ∷ xs) front rest p is =
    let same : 0 + length front ≡ length front = omega arith in
    subst (λ n. IsNth test k (None ∷ xs) p n) same (nth_later test k None xs p (length front) (nth_place test (k + 1) xs front rest p is))
nth_place test k (Some x ∷ xs) front rest p is = elim (cases_Bool (test x)) [
  | inl first ↦ nth_first test k x xs (places test (k + 1) xs) front rest p first (rw first at is) (λ front is. nth_place test (k + 1) xs front rest p is)
  | inr other ↦
      let none : cond (test x) 1 0 + length front ≡ length front = rw other (omega arith) in
      subst (λ n. IsNth test k (Some x ∷ xs) p n) none (nth_later test k (Some x) xs p (length front) (nth_place test (k + 1) xs front rest p (rw other at is)))
]

-- the number of the n-th place of those that come first
pub nth_number : {A : Type 0} (test : A → Bool) (xs : List (Option A)) (front rest : List ℕ) (p : ℕ) → places test 0 xs ≡ front ++ p ∷ rest → number_at (numbers test xs) p ≡ length front
nth_number test xs front rest p is =
    let nth = nth_place test 0 xs front rest p is in
    let same : p ≡ nth.place = omega (arith, nth.is) in
    ap (number_at (numbers test xs)) same ∙ number_is test xs nth.place nth.entry (ap entry_of nth.stands) ∙ rw (nth.first) nth.before

-- ---- imported entries, and then the others

-- entries of both sorts are all there in order
pub joined_again : {A B : Type 0} (again : A → B) (test : A → Bool) (xs : List (Option A)) (imported own : List B) → imported ≡ map again (filter test (live xs)) → own ≡ map again (filter (λ x. not (test x)) (live xs)) → map Some imported ++ map Some own ≡ all_there again (in_order test xs)
joined_again {A = A} again test xs imported own first other =
    let a : List A = filter test (live xs) in
    let b : List A = filter (λ x. not (test x)) (live xs) in
    ap (λ ys. map Some ys ++ map Some own) first ∙ ap (λ ys. map Some (map again a) ++ map Some ys) other
    ∙ sym (map-append Some (map again a) (map again b)) ∙ ap (map Some) (sym (map-append again a b))
