-- The entry at a place stands at its number among those that are written.
use Rattle.std.proofs.Common.{◌≡◌, ℕ, zero, suc, ◌+◌, ◌<◌, Bool, true, false, cond, not, List, [], ◌∷◌, ◌++◌, length, map, take, count_by, Option, Some, None, refl, sym, ap, subst, ◌∙◌, arith}
use Rattle.std.specs.Prelude.{slice_get}
use Rattle.std.specs.List.{filter, enumerate_from}
use Rattle.std.proofs.lemmas.List.{length-append}
use Rattle.std.proofs.lemmas.List.Filters.{length-filter_both}
use Rattle.std.proofs.lemmas.Option.{none-some, same_Some, slice_get_within}
use Rattle.wasm_ops.specs.Numbers.{or_zero, number_at}
use Rattle.wasm_emission.specs.Emission.{live}
use Rattle.wasm_collect.specs.Reach.{entry_of, entry_at}
use Rattle.wasm_emission.specs.Renumbering.{is_first, is_other, number_of, numbers, never}
use Rattle.wasm_core_laws.specs.Again.{in_order}
use Rattle.wasm_core_laws.proofs.Everywhere.{counted_more}

-- ---- places of lists

-- an item of the first list stands in both
pub get_left : {A : Type 0} (xs ys : List A) (i : ℕ) (x : A) → slice_get xs i ≡ Some x → slice_get (xs ++ ys) i ≡ Some x
get_left [] ys i x h = absurd (none-some x h)
get_left (y ∷ xs) ys zero x h = h
get_left (y ∷ xs) ys (suc i) x h = get_left xs ys i x h

-- an item of the second stands behind the first
pub get_right : {A : Type 0} (xs ys : List A) (i : ℕ) → slice_get (xs ++ ys) (length xs + i) ≡ slice_get ys i
get_right [] ys i = let e : 0 + i ≡ i = omega arith in rw e refl
get_right (x ∷ xs) ys i = let e : suc (length xs) + i ≡ suc (length xs + i) = omega arith in rw e (get_right xs ys i)

-- an item stands behind those before it
pub at_end : {A : Type 0} (front : List A) (x : A) (rest : List A) → slice_get (front ++ x ∷ rest) (length front) ≡ Some x
at_end [] x rest = refl
at_end (y ∷ front) x rest = at_end front x rest

-- what stands for an item and its place
numbered : {A B : Type 0} (f : ℕ × A → B) (k : ℕ) (xs : List A) (i : ℕ) (x : A) → slice_get xs i ≡ Some x → slice_get (map f (enumerate_from k xs)) i ≡ Some (f (k + i, x))
numbered f k [] i x h = absurd (none-some x h)
numbered f k (y ∷ xs) zero x h =
    let e : k ≡ k + 0 = omega arith in
    ap (λ z. Some (f (k, z))) (same_Some y x h) ∙ ap (λ j. Some (f (j, x))) e
numbered f k (y ∷ xs) (suc i) x h =
    let e : k + 1 + i ≡ k + suc i = omega arith in
    numbered f (k + 1) xs i x h ∙ ap (λ j. Some (f (j, x))) e

-- ---- entries that pass

-- an entry that is there
entry_stands : {A : Type 0} (o : Option (Option A)) (x : A) → entry_of o ≡ Some x → o ≡ Some (Some x)
entry_stands None x h = absurd (none-some x h)
entry_stands (Some None) x h = absurd (none-some x h)
entry_stands (Some (Some y)) x h = ap (λ o. Some o) h

-- an item that passes is one more
passing_more : {A : Type 0} (b : Bool) (y : A) (ys : List A) (n : ℕ) → length ys ≡ n → length (cond b (y ∷ ys) ys) ≡ cond b 1 0 + n
passing_more true y ys n h = omega (arith, h)
passing_more false y ys n h = omega (arith, h)

-- what stands behind an item stands one place later, where the item passes
behind_one : {A : Type 0} (b : Bool) (y : A) (ys : List A) (n : ℕ) (x : A) → slice_get ys n ≡ Some x → slice_get (cond b (y ∷ ys) ys) (cond b 1 0 + n) ≡ Some x
behind_one true y ys n x h = let e : 1 + n ≡ suc n = omega arith in rw e h
behind_one false y ys n x h = let e : 0 + n ≡ n = omega arith in rw e h

module _ {A : Type 0} (test : A → Bool) (has : Option A → Bool) (none : has None ≡ false) (same : (x : A) → has (Some x) ≡ test x) where
  -- an empty place is not counted
  count_none : (xs : List (Option A)) → count_by has (None ∷ xs) ≡ count_by has xs
  count_none xs = let e : 0 + count_by has xs ≡ count_by has xs = omega arith in counted_more has false None xs none ∙ e

  -- an entry is counted where it passes
  count_some : (y : A) (xs : List (Option A)) → count_by has (Some y ∷ xs) ≡ cond (test y) 1 0 + count_by has xs
  count_some y xs = counted_more has (test y) (Some y) xs (same y)

  -- so many pass
  pub passing_counted : (xs : List (Option A)) → length (filter test (live xs)) ≡ count_by has xs
  passing_counted [] = refl
  passing_counted (None ∷ xs) = passing_counted xs ∙ sym (count_none xs)
  passing_counted (Some y ∷ xs) = passing_more (test y) y (filter test (live xs)) (count_by has xs) (passing_counted xs) ∙ sym (count_some y xs)

  -- one that passes stands behind those before it that do
  passing_found : (xs : List (Option A)) (i : ℕ) (x : A) → entry_at xs i ≡ Some x → test x ≡ true → slice_get (filter test (live xs)) (count_by has (take i xs)) ≡ Some x
  passing_found [] i x h t = absurd (none-some x h)
  passing_found (None ∷ xs) zero x h t = absurd (none-some x h)
  passing_found (Some y ∷ xs) zero x h t =
      let passes : test y ≡ true = ap test (same_Some y x h) ∙ t in
      rw passes h
  passing_found (None ∷ xs) (suc i) x h t = rw (count_none (take i xs)) (passing_found xs i x h t)
  passing_found (Some y ∷ xs) (suc i) x h t = rw (count_some y (take i xs)) (behind_one (test y) y (filter test (live xs)) (count_by has (take i xs)) x (passing_found xs i x h t))

-- ---- numbers

-- the number at a place is that of its entry
pub number_is : {A : Type 0} (test : A → Bool) (xs : List (Option A)) (i : ℕ) (x : A) → entry_at xs i ≡ Some x → number_at (numbers test xs) i ≡ number_of test xs (i, Some x)
unfolding numbers
number_is test xs i x h =
    let e : 0 + i ≡ i = omega arith in
    ap or_zero (numbered (number_of test xs) 0 xs i (Some x) (entry_stands (slice_get xs i) x h)) ∙ ap (λ j. number_of test xs (j, Some x)) e

-- an entry stands at its number in the list that is written
pub number_again : {A : Type 0} (test : A → Bool) (xs : List (Option A)) (i : ℕ) (x : A) → entry_at xs i ≡ Some x → slice_get (in_order test xs) (number_at (numbers test xs) i) ≡ Some x
number_again test xs i x h = rw (number_is test xs i x h) (by_half (test x) refl)
  where
    by_half : (b : Bool) → test x ≡ b → slice_get (in_order test xs) (cond b (count_by (is_first test) (take i xs)) (count_by (is_first test) xs + count_by (is_other test) (take i xs))) ≡ Some x
    by_half true t = get_left (filter test (live xs)) (filter (λ y. not (test y)) (live xs)) (count_by (is_first test) (take i xs)) x (passing_found test (is_first test) refl (λ y. refl) xs i x h t)
    by_half false t =
        let others = filter (λ y. not (test y)) (live xs) in
        let n = count_by (is_other test) (take i xs) in
        ap (λ k. slice_get (in_order test xs) (k + n)) (sym (passing_counted test (is_first test) refl (λ y. refl) xs))
        ∙ get_right (filter test (live xs)) others n
        ∙ passing_found (λ y. not (test y)) (is_other test) refl (λ y. refl) xs i x h (ap not t)

-- where no entry stands first, the list that is written has them in the order of their places
pub none_first : {A : Type 0} (xs : List A) → filter never xs ≡ []
none_first [] = refl
none_first (x ∷ xs) = none_first xs

-- and all are others
pub all_others : {A : Type 0} (xs : List A) → filter (λ x. not (never x)) xs ≡ xs
all_others [] = refl
all_others (x ∷ xs) = ap (λ ys. x ∷ ys) (all_others xs)

-- so the list that is written is that of all entries
pub never_in_order : {A : Type 0} (xs : List (Option A)) → in_order never xs ≡ live xs
never_in_order xs = ap (λ ys. ys ++ filter (λ x. not (never x)) (live xs)) (none_first (live xs)) ∙ all_others (live xs)

-- and an entry stands at its number among all
pub number_never : {A : Type 0} (xs : List (Option A)) (i : ℕ) (x : A) → entry_at xs i ≡ Some x → slice_get (live xs) (number_at (numbers never xs) i) ≡ Some x
number_never xs i x h = subst (λ ys. slice_get ys (number_at (numbers never xs) i) ≡ Some x) (never_in_order xs) (number_again never xs i x h)

-- as many are written as there are
pub in_order_counted : {A : Type 0} (test : A → Bool) (xs : List (Option A)) → length (in_order test xs) ≡ length (live xs)
in_order_counted test xs = length-append (filter test (live xs)) (filter (λ x. not (test x)) (live xs)) ∙ length-filter_both test (λ x. not (test x)) (λ x. refl) (live xs)

-- the number is one of those
pub number_below : {A : Type 0} (test : A → Bool) (xs : List (Option A)) (i : ℕ) (x : A) → entry_at xs i ≡ Some x → number_at (numbers test xs) i < length (in_order test xs)
number_below test xs i x h = slice_get_within (in_order test xs) (number_at (numbers test xs) i) x (number_again test xs i x h)
