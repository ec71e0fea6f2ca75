-- Lists whose items are among those of another, or apart from them.
use Rattle.std.proofs.Common.{inl, inr, List, [], ◌∷◌, ◌++◌, refl}
use Rattle.values.specs.Lists.{IsIn, IsAway, AreDistinct, AreApart}
use Rattle.values.proofs.Members.{in_left, in_right, away_both, away_left, away_right}
use Rattle.glue_words.specs.Linking.{AreAmong}

module _ {A : Type 0} where
  pub among_in : (x : A) (xs ys : List A) → AreAmong xs ys → IsIn x xs → IsIn x ys
  among_in x [] ys h at = absurd at
  among_in x (z ∷ xs) ys h (inl same) = rw same h.0
  among_in x (z ∷ xs) ys h (inr at) = among_in x xs ys h.1 at

  pub among_by : (xs ys : List A) → ((x : A) → IsIn x xs → IsIn x ys) → AreAmong xs ys
  among_by [] ys h = tt
  among_by (x ∷ xs) ys h = (h x (inl refl), among_by xs ys (λ z at. h z (inr at)))

  pub among_itself : (xs : List A) → AreAmong xs xs
  among_itself xs = among_by xs xs (λ x at. at)

  pub among_trans : (xs ys zs : List A) → AreAmong xs ys → AreAmong ys zs → AreAmong xs zs
  among_trans xs ys zs h k = among_by xs zs (λ x at. among_in x ys zs k (among_in x xs ys h at))

  pub among_left : (xs ys zs : List A) → AreAmong xs ys → AreAmong xs (ys ++ zs)
  among_left xs ys zs h = among_by xs (ys ++ zs) (λ x at. in_left x ys zs (among_in x xs ys h at))

  pub among_right : (xs ys zs : List A) → AreAmong xs zs → AreAmong xs (ys ++ zs)
  among_right xs ys zs h = among_by xs (ys ++ zs) (λ x at. in_right x ys zs (among_in x xs zs h at))

  pub among_both : (xs ys zs : List A) → AreAmong xs zs → AreAmong ys zs → AreAmong (xs ++ ys) zs
  among_both [] ys zs h k = k
  among_both (x ∷ xs) ys zs h k = (h.0, among_both xs ys zs h.1 k)

  pub among_parts : (xs ys zs : List A) → AreAmong (xs ++ ys) zs → AreAmong xs zs × AreAmong ys zs
  among_parts [] ys zs h = (tt, h)
  among_parts (x ∷ xs) ys zs h = let rest = among_parts xs ys zs h.1 in ((h.0, rest.0), rest.1)

  pub apart_in : (x : A) (xs ys : List A) → AreApart xs ys → IsIn x xs → IsAway x ys
  apart_in x [] ys h at = absurd at
  apart_in x (z ∷ xs) ys h (inl same) = rw same h.0
  apart_in x (z ∷ xs) ys h (inr at) = apart_in x xs ys h.1 at

  pub apart_by : (xs ys : List A) → ((x : A) → IsIn x xs → IsAway x ys) → AreApart xs ys
  apart_by [] ys h = tt
  apart_by (x ∷ xs) ys h = (h x (inl refl), apart_by xs ys (λ z at. h z (inr at)))

  pub apart_swap : (xs ys : List A) → AreApart xs ys → AreApart ys xs
  apart_swap xs ys h = apart_by ys xs (λ y at there. apart_in y xs ys h there at)

  pub apart_none : (xs : List A) → AreApart xs []
  apart_none xs = apart_by xs [] (λ x at there. there)

  pub apart_both : (xs ys zs : List A) → AreApart xs zs → AreApart ys zs → AreApart (xs ++ ys) zs
  apart_both [] ys zs h k = k
  apart_both (x ∷ xs) ys zs h k = (h.0, apart_both xs ys zs h.1 k)

  pub apart_parts : (xs ys zs : List A) → AreApart (xs ++ ys) zs → AreApart xs zs × AreApart ys zs
  apart_parts [] ys zs h = (tt, h)
  apart_parts (x ∷ xs) ys zs h = let rest = apart_parts xs ys zs h.1 in ((h.0, rest.0), rest.1)

  pub apart_joined : (xs ys zs : List A) → AreApart xs ys → AreApart xs zs → AreApart xs (ys ++ zs)
  apart_joined [] ys zs h k = tt
  apart_joined (x ∷ xs) ys zs h k = (away_both x ys zs h.0 k.0, apart_joined xs ys zs h.1 k.1)

  pub apart_split : (xs ys zs : List A) → AreApart xs (ys ++ zs) → AreApart xs ys × AreApart xs zs
  apart_split [] ys zs h = (tt, tt)
  apart_split (x ∷ xs) ys zs h = let rest = apart_split xs ys zs h.1 in ((away_left x ys zs h.0, rest.0), (away_right x ys zs h.0, rest.1))

  pub apart_among : (xs ys zs : List A) → AreAmong xs ys → AreApart ys zs → AreApart xs zs
  apart_among xs ys zs h k = apart_by xs zs (λ x at. apart_in x ys zs k (among_in x xs ys h at))

  pub distinct_parts : (xs ys : List A) → AreDistinct (xs ++ ys) → AreDistinct xs × AreDistinct ys × AreApart xs ys
  distinct_parts [] ys h = (tt, h, tt)
  distinct_parts (x ∷ xs) ys h =
      let rest = distinct_parts xs ys h.1 in
      ((away_left x xs ys h.0, rest.0), rest.1, (away_right x xs ys h.0, rest.2))
