-- What membership and distinctness say of joined lists.
use Rattle.std.proofs.Common.{◌⊎◌, inl, inr, List, [], ◌∷◌, ◌++◌}
use Rattle.values.specs.Lists.{IsIn, IsAway, AreDistinct, AreApart}

module _ {A : Type 0} where
  pub in_left : (x : A) (xs ys : List A) → IsIn x xs → IsIn x (xs ++ ys)
  in_left x [] ys h = absurd h
  in_left x (y ∷ xs) ys (inl same) = inl same
  in_left x (y ∷ xs) ys (inr h) = inr (in_left x xs ys h)

  pub in_right : (x : A) (xs ys : List A) → IsIn x ys → IsIn x (xs ++ ys)
  in_right x [] ys h = h
  in_right x (y ∷ xs) ys h = inr (in_right x xs ys h)

  pub in_either : (x : A) (xs ys : List A) → IsIn x (xs ++ ys) → IsIn x xs ⊎ IsIn x ys
  in_either x [] ys h = inr h
  in_either x (y ∷ xs) ys (inl same) = inl (inl same)
  in_either x (y ∷ xs) ys (inr h) = elim (in_either x xs ys h) [ inl l ↦ inl (inr l) | inr r ↦ inr r ]

  pub away_both : (x : A) (xs ys : List A) → IsAway x xs → IsAway x ys → IsAway x (xs ++ ys)
  away_both x xs ys a b h = elim (in_either x xs ys h) [ inl l ↦ a l | inr r ↦ b r ]

  pub away_left : (x : A) (xs ys : List A) → IsAway x (xs ++ ys) → IsAway x xs
  away_left x xs ys a h = a (in_left x xs ys h)

  pub away_right : (x : A) (xs ys : List A) → IsAway x (xs ++ ys) → IsAway x ys
  away_right x xs ys a h = a (in_right x xs ys h)

  -- lists that are distinct and apart are distinct together
  pub distinct_both : (xs ys : List A) → AreDistinct xs → AreDistinct ys → AreApart xs ys → AreDistinct (xs ++ ys)
  distinct_both [] ys a b c = b
  distinct_both (x ∷ xs) ys a b c = (away_both x xs ys a.0 c.0, distinct_both xs ys a.1 b c.1)

  -- what is in the first of two lists that are apart is away from the second
  pub apart_away : (x : A) (xs ys : List A) → AreApart xs ys → IsIn x xs → IsAway x ys
  apart_away x [] ys a h = absurd h
  apart_away x (y ∷ xs) ys a (inl same) = rw same a.0
  apart_away x (y ∷ xs) ys a (inr h) = apart_away x xs ys a.1 h
