-- Where all entries are there, imported ones first, each has its place as its number.
use Rattle.std.proofs.Common.{◌≡◌, ℕ, zero, suc, ◌+◌, ◌-◌, ◌<◌, ◌≤◌, Bool, true, false, not, cond, List, [], ◌∷◌, ◌++◌, map, length, take, Some, refl, ap, ◌∙◌, arith, inl, inr}
use Rattle.std.specs.Prelude.{slice_get, count_by}
use Rattle.std.specs.List.{AllByRecursion, filter, range_with_len}
use Rattle.std.proofs.Math.Seq.{take-append-add}
use Rattle.std.proofs.lemmas.Bool.{cases_lt}
use Rattle.std.proofs.lemmas.List.{append-nil, length-map, length-take-le, take-append-le, take-map}
use Rattle.std.proofs.lemmas.List.Elements.{filter-append}
use Rattle.std.proofs.lemmas.List.Sums.{sum_by-append}
use Rattle.wasm_ops.specs.Numbers.{number_at}
use Rattle.wasm_emission.specs.Emission.{live}
use Rattle.wasm_core.specs.Parsing.{joined}
use Rattle.wasm_collect.specs.Reach.{entry_of, places}
use Rattle.wasm_emission.specs.Renumbering.{is_first, is_other, number_of, never, numbers}
use Rattle.wasm_core_laws.specs.Again.{in_order}
use Rattle.wasm_core_laws.proofs.Everywhere.{all_map, all_taken, all_counted, none_counted, all_pass, none_pass}
use Rattle.wasm_core_laws.proofs.Numbers.{get_left, get_right, number_is}
use Rattle.wasm_core_laws.proofs.Entries.{live_some, joined_some}

-- ---- what stands at a place

-- an entry of which something holds stands at a place of a list
stands_at : {A : Type 0} (P : A → Type 0) (xs : List A) → AllByRecursion P xs → (i : ℕ) → i < length xs → (x : A) × (slice_get (map Some xs) i ≡ Some (Some x)) × P x
stands_at P [] h i lt = absurd (omega (arith, lt))
stands_at P (x ∷ xs) h zero lt = (x, refl, h.0)
stands_at P (x ∷ xs) h (suc i) lt = stands_at P xs h.1 i (omega (arith, lt))

-- ---- counts

module _ {A : Type 0} (test : A → Bool) where
  -- the test holds of each
  abbrev EachPass : List A → Type 0
  EachPass xs = AllByRecursion (λ x. test x ≡ true) xs

  -- the test holds of none
  abbrev NonePass : List A → Type 0
  NonePass xs = AllByRecursion (λ x. test x ≡ false) xs

  -- how many stand first
  firsts : (xs : List A) → EachPass xs → count_by (is_first test) (map Some xs) ≡ length xs
  firsts xs h = all_counted (is_first test) (map Some xs) (all_map (λ x. is_first test x ≡ true) Some xs h) ∙ length-map xs Some

  -- none stands first
  no_firsts : (xs : List A) → NonePass xs → count_by (is_first test) (map Some xs) ≡ 0
  no_firsts xs h = none_counted (is_first test) (map Some xs) (all_map (λ x. is_first test x ≡ false) Some xs h)

  -- none of those that pass is another, and all that don't are
  not_others : (xs : List A) → EachPass xs → AllByRecursion (λ x. is_other test x ≡ false) (map Some xs)
  not_others [] h = tt
  not_others (x ∷ xs) h = (ap not h.0, not_others xs h.1)

  -- those that don't pass are others
  are_others : (xs : List A) → NonePass xs → AllByRecursion (λ x. is_other test x ≡ true) (map Some xs)
  are_others [] h = tt
  are_others (x ∷ xs) h = (ap not h.0, are_others xs h.1)

  -- how many others there are
  others : (xs : List A) → NonePass xs → count_by (is_other test) (map Some xs) ≡ length xs
  others xs h = all_counted (is_other test) (map Some xs) (are_others xs h) ∙ length-map xs Some

  -- there are no others
  no_others : (xs : List A) → EachPass xs → count_by (is_other test) (map Some xs) ≡ 0
  no_others xs h = none_counted (is_other test) (map Some xs) (not_others xs h)

  -- the number of one that stands first
  first_number : (xs ys : List A) → EachPass xs → (i : ℕ) (x : A) → test x ≡ true → i ≤ length xs → number_of test (joined xs ys) (i, Some x) ≡ i
  first_number xs ys h i x is le =
      let short : i ≤ length (map Some xs) = omega (arith, le, length-map xs Some) in
      rw is (ap (count_by (is_first test)) (take-append-le i (map Some xs) (map Some ys) short ∙ take-map Some i xs)
      ∙ firsts (take i xs) (all_taken (λ x. test x ≡ true) i xs h) ∙ length-take-le i xs le)

  -- the number of another
  other_number : (xs ys : List A) → EachPass xs → NonePass ys → (i : ℕ) (x : A) → test x ≡ false → length xs ≤ i → i ≤ length xs + length ys → number_of test (joined xs ys) (i, Some x) ≡ i
  other_number xs ys h k i x is low high =
      let n = i - length xs in
      let at : i ≡ length (map Some xs) + n = omega (arith, low, length-map xs Some) in
      let before : count_by (is_first test) (joined xs ys) ≡ length xs + 0 = sum_by-append (λ x. cond (is_first test x) 1 0) (map Some xs) (map Some ys) ∙ ap (λ c. c + count_by (is_first test) (map Some ys)) (firsts xs h) ∙ ap (λ c. length xs + c) (no_firsts ys k) in
      let taken : take i (joined xs ys) ≡ map Some xs ++ map Some (take n ys) = ap (λ j. take j (joined xs ys)) at ∙ take-append-add (map Some xs) (map Some ys) n ∙ ap (λ zs. map Some xs ++ zs) (take-map Some n ys) in
      let behind : count_by (is_other test) (take i (joined xs ys)) ≡ 0 + length (take n ys) =
      ap (count_by (is_other test)) taken ∙ sum_by-append (λ x. cond (is_other test x) 1 0) (map Some xs) (map Some (take n ys))
      ∙ ap (λ c. c + count_by (is_other test) (map Some (take n ys))) (no_others xs h) ∙ ap (λ c. 0 + c) (others (take n ys) (all_taken (λ x. test x ≡ false) n ys k)) in
      rw is (omega (arith, before, behind, low, length-take-le n ys (omega (arith, high))))

  -- each place is its number
  pub number_same : (xs ys : List A) → EachPass xs → NonePass ys → (i : ℕ) → i < length xs + length ys → number_at (numbers test (joined xs ys)) i ≡ i
  number_same xs ys h k i lt = elim (cases_lt i (length xs)) [
    | inl low ↦
        let s = stands_at (λ x. test x ≡ true) xs h i low in
        let there : slice_get (joined xs ys) i ≡ Some (Some s.0) = get_left (map Some xs) (map Some ys) i (Some s.0) s.1 in
        number_is test (joined xs ys) i s.0 (ap entry_of there) ∙ first_number xs ys h i s.0 s.2 (omega (arith, low))
    | inr high ↦
        let s = stands_at (λ x. test x ≡ false) ys k (i - length xs) (omega (arith, high, lt)) in
        let at : i ≡ length (map Some xs) + (i - length xs) = omega (arith, high, length-map xs Some) in
        let there : slice_get (joined xs ys) i ≡ Some (Some s.0) = ap (slice_get (joined xs ys)) at ∙ get_right (map Some xs) (map Some ys) (i - length xs) ∙ s.1 in
        number_is test (joined xs ys) i s.0 (ap entry_of there) ∙ other_number xs ys h k i s.0 s.2 high (omega (arith, lt))
  ]

  -- the order in which they are written is theirs
  pub order_same : (xs ys : List A) → EachPass xs → NonePass ys → in_order test (joined xs ys) ≡ xs ++ ys
  order_same xs ys h k =
      let alive : live (joined xs ys) ≡ xs ++ ys = ap live (joined_some xs ys) ∙ live_some (xs ++ ys) in
      let first : filter test (xs ++ ys) ≡ xs ++ [] = filter-append test xs ys ∙ ap (λ zs. zs ++ filter test ys) (all_pass test xs h) ∙ ap (λ zs. xs ++ zs) (none_pass test ys k) in
      let second : filter (λ x. not (test x)) (xs ++ ys) ≡ ys =
      filter-append (λ x. not (test x)) xs ys ∙ ap (λ zs. zs ++ filter (λ x. not (test x)) ys) (none_pass (λ x. not (test x)) xs (turned true xs h)) ∙ all_pass (λ x. not (test x)) ys (turned false ys k) in
      ap (λ zs. filter test zs ++ filter (λ x. not (test x)) zs) alive ∙ ap (λ zs. zs ++ filter (λ x. not (test x)) (xs ++ ys)) (first ∙ append-nil xs) ∙ ap (λ zs. xs ++ zs) second
    where
      turned : (b : Bool) (zs : List A) → AllByRecursion (λ x. test x ≡ b) zs → AllByRecursion (λ x. not (test x) ≡ not b) zs
      turned b [] h = tt
      turned b (z ∷ zs) h = (ap not h.0, turned b zs h.1)

  -- the places of those that pass are the first ones
  pub places_same : (from : ℕ) (xs ys : List A) → EachPass xs → NonePass ys → places test from (joined xs ys) ≡ range_with_len from (length xs)
  unfolding places
  places_same from [] [] h k = refl
  places_same from [] (y ∷ ys) h k = rw (k.0) (places_same (from + 1) [] ys h k.1)
  places_same from (x ∷ xs) ys h k = rw (h.0) (ap (λ ps. from ∷ ps) (places_same (from + 1) xs ys h.1 k))

-- where no entry stands first
pub never_same : {A : Type 0} (xs : List A) (i : ℕ) → i < length xs → number_at (numbers never (map Some xs)) i ≡ i
never_same xs i lt = number_same never [] xs tt (none xs) i (omega (arith, lt))
  where
    none : {A : Type 0} (xs : List A) → AllByRecursion (λ x. never x ≡ false) xs
    none [] = tt
    none (x ∷ xs) = (refl, none xs)
