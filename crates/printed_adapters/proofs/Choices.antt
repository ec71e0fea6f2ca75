-- Choices of a list, and membership in lists that are filtered or mapped.
use Rattle.std.proofs.Common.{◌≡◌, ℕ, zero, suc, ◌<◌, ◌==◌, Bool, true, false, true≢false, ◌&&◌, ◌||◌, not, cond, List, [], ◌∷◌, ◌++◌, map, length, get_or, Option, Some, None, refl, sym, ap, ◌∙◌, subst, arith, inl, inr}
use Rattle.std.specs.Prelude.{All}
use Rattle.std.specs.List.{cons_option, filter, filter_map, flat_map, list_all}
use Rattle.std.proofs.lemmas.Bool.{eqb-true}
use Rattle.std.proofs.lemmas.Bool.Decides.{Decides-eqb}
use Rattle.values.specs.Lists.{IsIn, AreDistinct}
use Rattle.values.proofs.Members.{in_left, in_right, in_either}
use Rattle.glue_shared.specs.Names.{has_number}
use Rattle.printed_adapters.specs.Printed.{choices}

pub both : (a b : Bool) → (a && b) ≡ true → (a ≡ true) × (b ≡ true)
both true b h = (refl, h)
both false b h = absurd (true≢false (sym h))

pub and_of : (a b : Bool) → a ≡ true → b ≡ true → (a && b) ≡ true
and_of true b h k = k
and_of false b h k = h

-- truths that follow from each other
same_truth : (a b : Bool) → (a ≡ true → b ≡ true) → (b ≡ true → a ≡ true) → a ≡ b
same_truth true b there back = sym (there refl)
same_truth false true there back = back refl
same_truth false false there back = refl

-- ---- numbers

pub number_in : (n : ℕ) (ns : List ℕ) → has_number n ns ≡ true → IsIn n ns
number_in n [] h = absurd (true≢false (sym h))
number_in n (k ∷ ns) h = here (k == n) refl h (number_in n ns)
  where
    here : (b : Bool) → (k == n) ≡ b → (b || has_number n ns) ≡ true → (has_number n ns ≡ true → IsIn n ns) → IsIn n (k ∷ ns)
    here true q h later = inl (sym (eqb-true k n q))
    here false q h later = inr (later h)

pub or_last : (a b : Bool) → b ≡ true → (a || b) ≡ true
or_last true b h = refl
or_last false b h = h

pub number_there : (n : ℕ) (ns : List ℕ) → IsIn n ns → has_number n ns ≡ true
number_there n [] i = absurd i
number_there n (k ∷ ns) (inl same) = ap (λ (b : Bool). b || has_number n ns) (ap (λ (x : ℕ). k == x) same ∙ (Decides-eqb k k).1 refl)
number_there n (k ∷ ns) (inr i) = or_last (k == n) (has_number n ns) (number_there n ns i)

-- ---- what is in a list

module _ {A : Type 0} where
  -- each passes the test
  pub all_in : (p : A → Bool) (xs : List A) (x : A) → list_all p xs ≡ true → IsIn x xs → p x ≡ true
  all_in p [] x h i = absurd i
  all_in p (y ∷ ys) x h (inl same) = ap p same ∙ (both (p y) (list_all p ys) h).0
  all_in p (y ∷ ys) x h (inr i) = all_in p ys x (both (p y) (list_all p ys) h).1 i

  pub all_by : (p : A → Bool) (xs : List A) → ((x : A) → IsIn x xs → p x ≡ true) → list_all p xs ≡ true
  all_by p [] h = refl
  all_by p (y ∷ ys) h = ap (λ (b : Bool). b && list_all p ys) (h y (inl refl)) ∙ all_by p ys (λ x i. h x (inr i))

  pub of_each : (P : A → Type 0) (xs : List A) (x : A) → All P xs → IsIn x xs → P x
  of_each P [] x h i = absurd i
  of_each P (y ∷ ys) x h (inl same) = subst P (sym same) (h 0 x (omega arith))
  of_each P (y ∷ ys) x h (inr i) = of_each P ys x (λ k d lt. h (suc k) d (omega (arith, lt))) i

  at_place : (xs : List A) (k : ℕ) (d : A) → k < length xs → IsIn (get_or xs k d) xs
  at_place [] k d lt = absurd (omega (arith, lt))
  at_place (x ∷ xs) zero d lt = inl refl
  at_place (x ∷ xs) (suc k) d lt = inr (at_place xs k d (omega (arith, lt)))

  pub each_by : (P : A → Type 0) (xs : List A) → ((x : A) → IsIn x xs → P x) → All P xs
  each_by P xs h k d lt = h (get_or xs k d) (at_place xs k d lt)

-- ---- filtered lists

module _ {A : Type 0} (p : A → Bool) where
  drop_case : (x y : A) (xs : List A) (b : Bool) → p y ≡ b → (IsIn x (filter p xs) → IsIn x xs × (p x ≡ true))
      → IsIn x (cond b (y ∷ filter p xs) (filter p xs)) → IsIn x (y ∷ xs) × (p x ≡ true)
  drop_case x y xs true e later (inl same) = (inl same, ap p same ∙ e)
  drop_case x y xs true e later (inr i) = let r = later i in (inr r.0, r.1)
  drop_case x y xs false e later i = let r = later i in (inr r.0, r.1)

  pub from_filter : (x : A) (xs : List A) → IsIn x (filter p xs) → IsIn x xs × (p x ≡ true)
  from_filter x [] i = absurd i
  from_filter x (y ∷ xs) i = drop_case x y xs (p y) refl (from_filter x xs) i

  keep_case : (x y : A) (xs : List A) (b : Bool) → p y ≡ b → (IsIn x xs → IsIn x (filter p xs)) → IsIn x (y ∷ xs) → p x ≡ true
      → IsIn x (cond b (y ∷ filter p xs) (filter p xs))
  keep_case x y xs true e later (inl same) passes = inl same
  keep_case x y xs true e later (inr i) passes = inr (later i)
  keep_case x y xs false e later (inl same) passes = absurd (true≢false (sym passes ∙ ap p same ∙ e))
  keep_case x y xs false e later (inr i) passes = later i

  pub in_filter : (x : A) (xs : List A) → IsIn x xs → p x ≡ true → IsIn x (filter p xs)
  in_filter x [] i passes = absurd i
  in_filter x (y ∷ xs) i passes = keep_case x y xs (p y) refl (λ k. in_filter x xs k passes) i passes

  still_distinct : (y : A) (ys : List A) (b : Bool) → (IsIn y ys → ⊥) → AreDistinct ys → AreDistinct (cond b (y ∷ ys) ys)
  still_distinct y ys true away d = (away, d)
  still_distinct y ys false away d = d

  pub filter_distinct : (xs : List A) → AreDistinct xs → AreDistinct (filter p xs)
  filter_distinct [] d = tt
  filter_distinct (y ∷ xs) d = still_distinct y (filter p xs) (p y) (λ i. d.0 (from_filter y xs i).0) (filter_distinct xs d.1)

-- tests that agree on what is in the list
pub filter_same : {A : Type 0} (p q : A → Bool) (xs : List A) → ((x : A) → IsIn x xs → p x ≡ true → q x ≡ true)
    → ((x : A) → IsIn x xs → q x ≡ true → p x ≡ true) → filter p xs ≡ filter q xs
filter_same p q [] there back = refl
filter_same p q (x ∷ xs) there back =
    ap (λ (b : Bool). cond b (x ∷ filter p xs) (filter p xs)) (same_truth (p x) (q x) (there x (inl refl)) (back x (inl refl)))
    ∙ ap (λ ys. cond (q x) (x ∷ ys) ys) (filter_same p q xs (λ y i. there y (inr i)) (λ y i. back y (inr i)))

-- ---- mapped lists

later_in : {B : Type 0} (o : Option B) (ys : List B) (y : B) → IsIn y ys → IsIn y (cons_option o ys)
later_in None ys y i = i
later_in (Some x) ys y i = inr i

module _ {A B : Type 0} where
  pub in_map : (f : A → B) (x : A) (xs : List A) → IsIn x xs → IsIn (f x) (map f xs)
  in_map f x [] i = absurd i
  in_map f x (y ∷ ys) (inl same) = inl (ap f same)
  in_map f x (y ∷ ys) (inr i) = inr (in_map f x ys i)

  pub in_flat : (f : A → List B) (xs : List A) (x : A) (y : B) → IsIn x xs → IsIn y (f x) → IsIn y (flat_map f xs)
  in_flat f [] x y i k = absurd i
  in_flat f (z ∷ xs) x y (inl e) k = in_left y (f z) (flat_map f xs) (subst (λ w. IsIn y (f w)) e k)
  in_flat f (z ∷ xs) x y (inr i) k = in_right y (f z) (flat_map f xs) (in_flat f xs x y i k)

  pub from_flat : (f : A → List B) (xs : List A) (y : B) → IsIn y (flat_map f xs) → (x : A) × IsIn x xs × IsIn y (f x)
  from_flat f [] y i = absurd i
  from_flat f (x ∷ xs) y i = elim (in_either y (f x) (flat_map f xs) i) [
    | inl here ↦ (x, inl refl, here)
    | inr later ↦ let r = from_flat f xs y later in (r.0, inr r.1, r.2)
  ]

  pub in_filter_map : (f : A → Option B) (xs : List A) (x : A) (y : B) → IsIn x xs → f x ≡ Some y → IsIn y (filter_map f xs)
  in_filter_map f [] x y i e = absurd i
  in_filter_map f (z ∷ xs) x y (inl same) e = subst (λ (o : Option B). IsIn y (cons_option o (filter_map f xs))) (sym e ∙ ap f same) (inl refl)
  in_filter_map f (z ∷ xs) x y (inr i) e = later_in (f z) (filter_map f xs) y (in_filter_map f xs x y i e)

  map_case : (f : A → Option B) (z : A) (xs : List A) (y : B) (o : Option B) → f z ≡ o
      → (IsIn y (filter_map f xs) → (x : A) × IsIn x xs × (f x ≡ Some y)) → IsIn y (cons_option o (filter_map f xs))
      → (x : A) × IsIn x (z ∷ xs) × (f x ≡ Some y)
  map_case f z xs y None e later i = let r = later i in (r.0, inr r.1, r.2)
  map_case f z xs y (Some w) e later (inl same) = (z, inl refl, e ∙ ap Some (sym same))
  map_case f z xs y (Some w) e later (inr i) = let r = later i in (r.0, inr r.1, r.2)

  pub from_filter_map : (f : A → Option B) (xs : List A) (y : B) → IsIn y (filter_map f xs) → (x : A) × IsIn x xs × (f x ≡ Some y)
  from_filter_map f [] y i = absurd i
  from_filter_map f (z ∷ xs) y i = map_case f z xs y (f z) refl (from_filter_map f xs y) i

-- ---- choices

chosen_case : {A : Type 0} (x : A) (some : List A) (xs : List A) (b : Bool) → IsIn some (choices xs) → IsIn (cond b (x ∷ some) some) (choices (x ∷ xs))
chosen_case x some xs true i =
    in_left (x ∷ some) (map (λ others. x ∷ others) (choices xs)) (choices xs) (in_map (λ others. x ∷ others) some (choices xs) i)
chosen_case x some xs false i = in_right some (map (λ others. x ∷ others) (choices xs)) (choices xs) i

-- what passes a test is a choice
pub filter_chosen : {A : Type 0} (p : A → Bool) (xs : List A) → IsIn (filter p xs) (choices xs)
filter_chosen p [] = inl refl
filter_chosen p (x ∷ xs) = chosen_case x (filter p xs) xs (p x) (filter_chosen p xs)
