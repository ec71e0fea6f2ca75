-- Lists that two functions give item by item, and each by itself.
use Rattle.std.proofs.Common.{◌≡◌, List, [], ◌∷◌, ◌++◌, map, flat_map, refl, ap, ◌∙◌, inl, inr}
use Rattle.std.proofs.lemmas.List.{map-append}
use Rattle.values.specs.Lists.{IsIn, AreDistinct}
use Rattle.values.proofs.Members.{in_left, in_right, in_either, distinct_both}
use Rattle.glue_words.proofs.Among.{apart_in, apart_by, distinct_parts}
use Rattle.glue_exports.proofs.Joined.{in_flat, from_flat}

module _ {A B : Type 0} (f g : A → List B) where
  abbrev both : A → List B
  both a = f a ++ g a

  -- they have the same items
  pub from_woven : (x : B) (xs : List A) → IsIn x (flat_map both xs) → IsIn x (flat_map f xs ++ flat_map g xs)
  from_woven x xs i =
      let r = from_flat both x xs i in
      elim (in_either x (f r.0) (g r.0) r.2) [
        | inl left ↦ in_left x (flat_map f xs) (flat_map g xs) (in_flat f r.0 x xs r.1 left)
        | inr right ↦ in_right x (flat_map f xs) (flat_map g xs) (in_flat g r.0 x xs r.1 right)
      ]

  pub in_woven : (x : B) (xs : List A) → IsIn x (flat_map f xs ++ flat_map g xs) → IsIn x (flat_map both xs)
  in_woven x xs i = elim (in_either x (flat_map f xs) (flat_map g xs) i) [
    | inl left ↦ let r = from_flat f x xs left in in_flat both r.0 x xs r.1 (in_left x (f r.0) (g r.0) r.2)
    | inr right ↦ let r = from_flat g x xs right in in_flat both r.0 x xs r.1 (in_right x (f r.0) (g r.0) r.2)
  ]

  -- and are distinct where those are
  pub woven_distinct : (xs : List A) → AreDistinct (flat_map f xs ++ flat_map g xs) → AreDistinct (flat_map both xs)
  woven_distinct [] h = tt
  woven_distinct (a ∷ xs) h =
      let fs = flat_map f xs in
      let gs = flat_map g xs in
      let p = distinct_parts (f a ++ fs) (g a ++ gs) h in
      let q = distinct_parts (f a) fs p.0 in
      let r = distinct_parts (g a) gs p.1 in
      let across : (x : B) → IsIn x (f a ++ fs) → IsIn x (g a ++ gs) → ⊥ = λ x i k. apart_in x (f a ++ fs) (g a ++ gs) p.2 i k in
      distinct_both (both a) (flat_map both xs)
      (distinct_both (f a) (g a) q.0 r.0 (apart_by (f a) (g a) (λ x i k. across x (in_left x (f a) fs i) (in_left x (g a) gs k))))
      (woven_distinct xs (distinct_both fs gs q.1 r.1 (apart_by fs gs (λ x i k. across x (in_right x (f a) fs i) (in_right x (g a) gs k)))))
      (apart_by (both a) (flat_map both xs) (λ x i k.
      elim (in_either x (f a) (g a) i) [
        | inl one ↦ elim (in_either x fs gs (from_woven x xs k)) [
          | inl other ↦ apart_in x (f a) fs q.2 one other
          | inr other ↦ across x (in_left x (f a) fs one) (in_right x (g a) gs other)
        ]
        | inr one ↦ elim (in_either x fs gs (from_woven x xs k)) [
          | inl other ↦ across x (in_right x (f a) fs other) (in_left x (g a) gs one)
          | inr other ↦ apart_in x (g a) gs r.2 one other
        ]
      ]))

pub map-flat_map : {A B C : Type 0} (f : B → C) (g : A → List B) (xs : List A) → map f (flat_map g xs) ≡ flat_map (λ x. map f (g x)) xs
map-flat_map f g [] = refl
map-flat_map f g (x ∷ xs) = map-append f (g x) (flat_map g xs) ∙ ap (λ ys. map f (g x) ++ ys) (map-flat_map f g xs)
