-- What membership says of lists that are filtered, mapped and joined.
use Rattle.std.proofs.Common.{◌≡◌, Bool, true, false, ◌||◌, cond, true≢false, List, [], ◌∷◌, ◌++◌, map, filter, flat_map, refl, sym, ap, ◌∙◌, ◌⊎◌, inl, inr}
use Rattle.std.proofs.lemmas.Bool.{or_left, or_right, false_from_ne_true}
use Rattle.std.specs.List.{list_any}
use Rattle.values.specs.Lists.{IsIn, IsAway, AreDistinct, AreApart}
use Rattle.values.proofs.Members.{in_left, in_right, in_either, distinct_both}

-- ---- joined lists

module _ {A : Type 0} where
  -- what is in a list with one item more
  pub in_last : (x y : A) (xs : List A) → IsIn x (xs ++ y ∷ []) → IsIn x xs ⊎ (x ≡ y)
  in_last x y [] (inl same) = inr same
  in_last x y [] (inr none) = absurd none
  in_last x y (z ∷ xs) (inl same) = inl (inl same)
  in_last x y (z ∷ xs) (inr i) = elim (in_last x y xs i) [ inl there ↦ inl (inr there) | inr same ↦ inr same ]

  pub apart_each : (xs ys : List A) → ((x : A) → IsIn x xs → IsAway x ys) → AreApart xs ys
  apart_each [] ys h = tt
  apart_each (x ∷ xs) ys h = (h x (inl refl), apart_each xs ys (λ y i. h y (inr i)))

  -- an item more is distinct from distinct ones
  pub last_distinct : (xs : List A) (y : A) → AreDistinct xs → IsAway y xs → AreDistinct (xs ++ y ∷ [])
  last_distinct xs y d away =
      distinct_both xs (y ∷ []) d (λ i. i, tt)
      (apart_each xs (y ∷ []) (λ x i k. elim k [ inl same ↦ away (rw same at i) | inr none ↦ none ]))

-- ---- what passes a test

module _ {A : Type 0} (p : A → Bool) where
  drop_case : (x y : A) (xs : List A) (b : Bool) → p y ≡ b → (IsIn x (filter p xs) → IsIn x xs × (p x ≡ true))
      → IsIn x (cond b (y ∷ filter p xs) (filter p xs)) → IsIn x (y ∷ xs) × (p x ≡ true)
  drop_case x y xs true e later (inl same) = (inl same, ap p same ∙ e)
  drop_case x y xs true e later (inr i) = let r = later i in (inr r.0, r.1)
  drop_case x y xs false e later i = let r = later i in (inr r.0, r.1)

  pub from_filter : (x : A) (xs : List A) → IsIn x (filter p xs) → IsIn x xs × (p x ≡ true)
  from_filter x [] i = absurd i
  from_filter x (y ∷ xs) i = drop_case x y xs (p y) refl (from_filter x xs) i

  keep_case : (x y : A) (xs : List A) (b : Bool) → p y ≡ b → (IsIn x xs → IsIn x (filter p xs)) → IsIn x (y ∷ xs) → p x ≡ true
      → IsIn x (cond b (y ∷ filter p xs) (filter p xs))
  keep_case x y xs true e later (inl same) passes = inl same
  keep_case x y xs true e later (inr i) passes = inr (later i)
  keep_case x y xs false e later (inl same) passes = absurd (true≢false (sym passes ∙ ap p same ∙ e))
  keep_case x y xs false e later (inr i) passes = later i

  pub in_filter : (x : A) (xs : List A) → IsIn x xs → p x ≡ true → IsIn x (filter p xs)
  in_filter x [] i passes = absurd i
  in_filter x (y ∷ xs) i passes = keep_case x y xs (p y) refl (λ k. in_filter x xs k passes) i passes

  still_distinct : (y : A) (ys : List A) (b : Bool) → IsAway y ys → AreDistinct ys → AreDistinct (cond b (y ∷ ys) ys)
  still_distinct y ys true away d = (away, d)
  still_distinct y ys false away d = d

  pub filter_distinct : (xs : List A) → AreDistinct xs → AreDistinct (filter p xs)
  filter_distinct [] d = tt
  filter_distinct (y ∷ xs) d =
      still_distinct y (filter p xs) (p y) (λ i. d.0 (from_filter y xs i).0) (filter_distinct xs d.1)

  pub any_in : (x : A) (xs : List A) → IsIn x xs → p x ≡ true → list_any p xs ≡ true
  any_in x [] i passes = absurd i
  any_in x (y ∷ xs) (inl same) passes = or_left (p y) (list_any p xs) (ap p (sym same) ∙ passes)
  any_in x (y ∷ xs) (inr i) passes = or_right (p y) (list_any p xs) (any_in x xs i passes)

  any_case : (y : A) (xs : List A) (b : Bool) → p y ≡ b → (list_any p xs ≡ true → (x : A) × IsIn x xs × (p x ≡ true))
      → (b || list_any p xs) ≡ true → (x : A) × IsIn x (y ∷ xs) × (p x ≡ true)
  any_case y xs true e later h = (y, inl refl, e)
  any_case y xs false e later h = let r = later h in (r.0, inr r.1, r.2)

  pub from_any : (xs : List A) → list_any p xs ≡ true → (x : A) × IsIn x xs × (p x ≡ true)
  from_any [] h = absurd (true≢false (sym h))
  from_any (y ∷ xs) h = any_case y xs (p y) refl (from_any xs) h

  -- no item passes
  pub none_any : (xs : List A) → ((x : A) → IsIn x xs → p x ≡ true → ⊥) → list_any p xs ≡ false
  none_any xs h = false_from_ne_true (list_any p xs) (λ e. let r = from_any xs e in h r.0 r.1 r.2)

-- the same items pass two tests that say the same of each
filter_case : {A : Type 0} (x : A) (xs ys : List A) (a b : Bool) → a ≡ b → xs ≡ ys → cond a (x ∷ xs) xs ≡ cond b (x ∷ ys) ys
filter_case x xs ys a b e same = rw (e, same) refl

pub filter_same : {A : Type 0} (p q : A → Bool) (xs : List A) → ((x : A) → IsIn x xs → p x ≡ q x) → filter p xs ≡ filter q xs
filter_same p q [] h = refl
filter_same p q (x ∷ xs) h =
    filter_case x (filter p xs) (filter q xs) (p x) (q x) (h x (inl refl)) (filter_same p q xs (λ y i. h y (inr i)))

pub filter_all : {A : Type 0} (xs : List A) → filter (λ x. true) xs ≡ xs
filter_all [] = refl
filter_all (x ∷ xs) = ap (λ ys. x ∷ ys) (filter_all xs)

-- ---- what a function gives

module _ {A B : Type 0} (f : A → B) where
  pub in_map : (x : A) (xs : List A) → IsIn x xs → IsIn (f x) (map f xs)
  in_map x [] i = absurd i
  in_map x (y ∷ xs) (inl same) = inl (ap f same)
  in_map x (y ∷ xs) (inr i) = inr (in_map x xs i)

  pub from_map : (y : B) (xs : List A) → IsIn y (map f xs) → (x : A) × IsIn x xs × (y ≡ f x)
  from_map y [] i = absurd i
  from_map y (x ∷ xs) (inl same) = (x, inl refl, same)
  from_map y (x ∷ xs) (inr i) = let r = from_map y xs i in (r.0, inr r.1, r.2)

  -- a function that gives each value once
  pub map_distinct : ((x y : A) → f x ≡ f y → x ≡ y) → (xs : List A) → AreDistinct xs → AreDistinct (map f xs)
  map_distinct one [] d = tt
  map_distinct one (x ∷ xs) d =
      (λ i. let r = from_map (f x) xs i in d.0 (rw (← one x r.0 r.2) at r.1), map_distinct one xs d.1)

module _ {A B : Type 0} (f : A → List B) where
  pub in_flat : (x : A) (y : B) (xs : List A) → IsIn x xs → IsIn y (f x) → IsIn y (flat_map f xs)
  in_flat x y [] i here = absurd i
  in_flat x y (z ∷ xs) (inl same) here = in_left y (f z) (flat_map f xs) (rw same at here)
  in_flat x y (z ∷ xs) (inr i) here = in_right y (f z) (flat_map f xs) (in_flat x y xs i here)

  pub from_flat : (y : B) (xs : List A) → IsIn y (flat_map f xs) → (x : A) × IsIn x xs × IsIn y (f x)
  from_flat y [] i = absurd i
  from_flat y (x ∷ xs) i = elim (in_either y (f x) (flat_map f xs) i) [
    | inl here ↦ (x, inl refl, here)
    | inr later ↦ let r = from_flat y xs later in (r.0, inr r.1, r.2)
  ]
