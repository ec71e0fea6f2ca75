-- Lists in an order: what is in one, what stays distinct, and what a sort gives.
use Rattle.std.proofs.Common.{◌≡◌, inl, inr, List, [], ◌∷◌, map, Bool, false, true≢false, sym, ap, ◌∙◌, arith, refl, All, IsPermutation, Bor, Ordering}
use Rattle.std.specs.List.{AllByRecursion, IsDistinct}
use Rattle.std.specs.List.Sorted.{IsSorted, IsSortedByKey, IsSortedByClosure}
use Rattle.std.specs.Bool.{Decides}
use Rattle.std.specs.Fn.{Called}
use Rattle.std.specs.Cmp.{IsTotalOrder}
use Rattle.std.specs.Ordering.{is_lt}
use denote.Param.Members.{Mut}
use Rattle.std.proofs.lemmas.Bool.{false_from_ne_true}
use Rattle.std.proofs.lemmas.Bool.Decides.{same_from_decides, Decides-like}
use Rattle.std.proofs.lemmas.Fn.{always_returns_same}
use Rattle.std.proofs.lemmas.List.{get_or-map, length-map}
use Rattle.std.proofs.lemmas.List.Elements.{All-nil, All-cons, All-head, All-tail}
use Rattle.std.proofs.lemmas.List.Sorted.{All-permutation, IsPermutation-map, ranks_by}
use Rattle.std.proofs.lemmas.Map.Keys.{IsDistinct-IsPermutation}
use Rattle.values.specs.Lists.{IsIn, IsAway, AreDistinct}
use Rattle.glue_naming.specs.Arranged.{IsArranged}

-- ---- members

module _ {A : Type 0} (P : A → Type 0) where
  pub all_are : (xs : List A) → ((x : A) → IsIn x xs → P x) → All P xs
  all_are [] f = All-nil P
  all_are (x ∷ xs) f = All-cons P x xs (f x (inl refl)) (all_are xs (λ y k. f y (inr k)))

  pub each_is : (xs : List A) → All P xs → (x : A) → IsIn x xs → P x
  each_is [] h x k = absurd k
  each_is (y ∷ xs) h x k = let here = All-head P y xs h in let rest = each_is xs (All-tail P y xs h) x in grind arith

pub moved_from : {A : Type 0} (xs ys : List A) → IsPermutation xs ys → (x : A) → IsIn x ys → IsIn x xs
moved_from xs ys p = each_is (λ x. IsIn x xs) ys (All-permutation (λ x. IsIn x xs) xs ys p (all_are (λ x. IsIn x xs) xs (λ x k. k)))

pub arranged_from : {A : Type 0} {order : A → A → Ordering} {xs ys : List A} → IsArranged order xs ys → (x : A) → IsIn x ys → IsIn x xs
arranged_from {xs = xs} {ys = ys} a = moved_from xs ys a.same

-- ---- what is distinct stays so

module _ {A : Type 0} (same : A → A → Bool) (decides : (x y : A) → Decides (same x y) (x ≡ y)) where
  away_test : (x : A) (xs : List A) → (IsAway x xs → AllByRecursion (λ y. same x y ≡ false) xs) × (AllByRecursion (λ y. same x y ≡ false) xs → IsAway x xs)
  away_test x [] = (λ h. tt, λ h k. k)
  away_test x (y ∷ xs) =
      let rest = away_test x xs in (
        λ h. (false_from_ne_true (same x y) (λ e. h (inl ((decides x y).0 e))), rest.0 (λ k. h (inr k))),
        λ h k. elim k [ inl e ↦ true≢false (sym ((decides x y).1 e) ∙ h.0) | inr i ↦ rest.1 h.1 i ],
      )

  by_test : (xs : List A) → (AreDistinct xs → IsDistinct same xs) × (IsDistinct same xs → AreDistinct xs)
  unfolding IsDistinct
  by_test [] = (λ h. tt, λ h. tt)
  by_test (x ∷ xs) = (λ h. ((away_test x xs).0 h.0, (by_test xs).0 h.1), λ h. ((away_test x xs).1 h.0, (by_test xs).1 h.1))

  pub distinct_moved : (xs ys : List A) → IsPermutation xs ys → AreDistinct xs → AreDistinct ys
  distinct_moved xs ys p h = (by_test ys).1 (IsDistinct-IsPermutation same
      (λ x y. same_from_decides (same x y) (same y x) (decides x y) (Decides-like (same y x) sym sym (decides y x))) xs ys p ((by_test xs).0 h))

-- ---- what a sort gives, of items that are looked at by a function

module _ {A B : Type 0} (look : A → B) (order : B → B → Ordering) where
  sorted_look : (xs : List A) → IsSortedByKey look order xs → IsSorted order (map look xs)
  sorted_look [] h k d low high = absurd (omega (arith, high))
  sorted_look (x ∷ xs) h k d low high = let e = h k x low in grind (arith, get_or-map, length-map)

  -- what `sort_by` ensures, where each call compares by the order
  pub arranged_by_sort : IsTotalOrder order → {F : Type 0} {g : Mut F (Bor A × (Bor A × Unit {0})) Ordering} {f : F}
      (xs ys : List A) → IsPermutation xs ys → IsSortedByClosure g f ys
      → ((a : Bor A × (Bor A × Unit {0})) (r : Ordering) (f' : F) → Called g f a r f' → (r ≡ order (look a.0.now) (look a.1.0.now)) × (f' ≡ f))
      → IsArranged order (map look xs) (map look ys)
  arranged_by_sort total {g = g} {f = f} xs ys same up h = record {
    same = IsPermutation-map look xs ys same;
    rises = sorted_look ys (up (λ x y. is_lt (order (look x) (look y))) (ranks_by total look)
        (always_returns_same g (λ a r. is_lt r ≡ is_lt (order (look a.0.now) (look a.1.0.now))) f (λ a r f' k. (ap is_lt (h a r f' k).0, (h a r f' k).1))));
  }
