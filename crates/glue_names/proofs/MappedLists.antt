-- What lists that are mapped, joined, or mapped in part hold.
use Rattle.std.proofs.Common.{◌≡◌, List, [], ◌∷◌, map, refl, sym, ap, subst, ◌∙◌, inl, inr, Bool, true, false, true≢false, cond}
use Rattle.std.specs.Prelude.{Option, None, Some}
use Rattle.std.specs.List.{cons_option, flat_map, filter_map}
use Rattle.values.specs.Lists.{IsIn, IsAway, AreDistinct}
use Rattle.glue_names.proofs.Globals.{from_flat, in_flat}
pub use Rattle.printed_adapters.proofs.Choices.{in_map}

-- ---- lists that are mapped, joined, or mapped in part

pub from_map : {A B : Type 0} (f : A → B) (y : B) (xs : List A) → IsIn y (map f xs) → (x : A) × IsIn x xs × (y ≡ f x)
from_map f y [] i = absurd i
from_map f y (x ∷ xs) (inl same) = (x, inl refl, same)
from_map f y (x ∷ xs) (inr i) = let r = from_map f y xs i in (r.0, inr r.1, r.2)

-- an item of a list that stands under a test, and one that is put there
pub in_where : {A : Type 0} (x : A) (xs : List A) (b : Bool) → IsIn x (cond b xs []) → IsIn x xs × (b ≡ true)
in_where x xs true i = (i, refl)
in_where x xs false i = absurd i

pub where_true : {A : Type 0} (x : A) (xs : List A) (b : Bool) → b ≡ true → IsIn x xs → IsIn x (cond b xs [])
where_true x xs true h i = i
where_true x xs false h i = absurd (true≢false (sym h))

-- what a list's items give, those of another that has them all give too
pub flat_more : {A B : Type 0} (f : A → List B) (xs ys : List A) → ((x : A) → IsIn x xs → IsIn x ys) → (y : B) → IsIn y (flat_map f xs)
    → IsIn y (flat_map f ys)
flat_more f xs ys h y i = let r = from_flat f xs y i in in_flat f ys r.0 y (h r.0 r.1) r.2

module _ {A B : Type 0} (f : A → Option B) where
  stays : (y : B) (o : Option B) (ys : List B) → IsIn y ys → IsIn y (cons_option o ys)
  stays y None ys i = i
  stays y (Some z) ys i = inr i

  first_is : (y : B) (o : Option B) (ys : List B) → o ≡ Some y → IsIn y (cons_option o ys)
  first_is y None ys e = cc
  first_is y (Some z) ys e = let same : y ≡ z = cc in inl same

  pub in_part : (x : A) (y : B) (xs : List A) → IsIn x xs → f x ≡ Some y → IsIn y (filter_map f xs)
  in_part x y [] i e = absurd i
  in_part x y (z ∷ xs) (inl same) e = first_is y (f z) (filter_map f xs) (ap f (sym same) ∙ e)
  in_part x y (z ∷ xs) (inr i) e = stays y (f z) (filter_map f xs) (in_part x y xs i e)

  part_case : (y : B) (x : A) (xs : List A) (o : Option B) → f x ≡ o → (IsIn y (filter_map f xs) → (z : A) × IsIn z xs × (f z ≡ Some y))
      → IsIn y (cons_option o (filter_map f xs)) → (z : A) × IsIn z (x ∷ xs) × (f z ≡ Some y)
  part_case y x xs None e later i = let r = later i in (r.0, inr r.1, r.2)
  part_case y x xs (Some k) e later (inl same) = (x, inl refl, e ∙ ap Some (sym same))
  part_case y x xs (Some k) e later (inr i) = let r = later i in (r.0, inr r.1, r.2)

  pub from_part : (y : B) (xs : List A) → IsIn y (filter_map f xs) → (x : A) × IsIn x xs × (f x ≡ Some y)
  from_part y [] i = absurd i
  from_part y (x ∷ xs) i = part_case y x xs (f x) refl (from_part y xs) i

  -- what the items give is distinct under a look at it, where two items that give the same there are one
  module _ {C : Type 0} (look : B → C) where
    distinct_case : (x : A) (xs : List A) (o : Option B) → f x ≡ o → IsAway x xs
        → ((a b : A) (u v : B) → f a ≡ Some u → f b ≡ Some v → look u ≡ look v → a ≡ b)
        → AreDistinct (map look (filter_map f xs)) → AreDistinct (map look (cons_option o (filter_map f xs)))
    distinct_case x xs None e away apart d = d
    distinct_case x xs (Some u) e away apart d = (
      λ i. let r = from_map look (look u) (filter_map f xs) i in let s = from_part r.0 xs r.1 in
          away (subst (λ (a : A). IsIn a xs) (sym (apart x s.0 u r.0 e s.2 r.2)) s.1),
      d,
    )

    pub part_distinct : (xs : List A) → AreDistinct xs → ((a b : A) (u v : B) → f a ≡ Some u → f b ≡ Some v → look u ≡ look v → a ≡ b)
        → AreDistinct (map look (filter_map f xs))
    part_distinct [] d apart = tt
    part_distinct (x ∷ xs) d apart = distinct_case x xs (f x) refl d.0 apart (part_distinct xs d.1 apart)
