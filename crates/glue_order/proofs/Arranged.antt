-- Lists in an order: what a sort gives, and what becomes of it where items are looked at in another way.
use Rattle.std.proofs.Common.{◌≡◌, ◌+◌, ◌∙◌, All, Bool, Bor, IsPermutation, List, Ordering, [], ap, arith, cond, false, map, refl, subst, sym, true, ◌∷◌}
use Rattle.std.specs.Cmp.{IsTotalOrder}
use Rattle.std.specs.Fn.{Called}
use Rattle.std.specs.List.{filter}
use Rattle.std.specs.List.Sorted.{IsSorted, IsSortedByClosure, IsStable, IsStableByClosure, ties}
use Rattle.std.specs.Ordering.{is_lt}
use denote.Param.Members.{Mut}
use Rattle.std.proofs.lemmas.Fn.{always_returns_same}
use Rattle.std.proofs.lemmas.List.{get_or-map, length-map, map-id}
use Rattle.std.proofs.lemmas.List.Elements.{All-head, All-map, All-tail}
use Rattle.std.proofs.lemmas.List.Sorted.{All-permutation, IsPermutation-map, ranks_by}
use Rattle.std.proofs.lemmas.Simd.{map-map}
use Rattle.glue_order.specs.Order.{IsArranged}
use Rattle.glue_order.proofs.LongWalks.{map_alike}

-- what `sort_by` ensures, where each call compares by the order
pub arranged_by_sort : {A : Type 0} (order : A → A → Ordering) → IsTotalOrder order → {F : Type 0} {g : Mut F (Bor A × (Bor A × Unit {0})) Ordering} {f : F}
    (xs ys : List A) → IsPermutation xs ys → IsSortedByClosure g f ys → IsStableByClosure g f xs ys
    → ((a : Bor A × (Bor A × Unit {0})) (r : Ordering) (f' : F) → Called g f a r f' → (r ≡ order a.0.now a.1.0.now) × (f' ≡ f))
    → IsArranged order xs ys
arranged_by_sort {A} order total {g = g} {f = f} xs ys same rises stable h =
    let less : A → A → Bool = λ x y. is_lt (order x y) in
    let ranks = ranks_by total (λ (x : A). x) in
    let compares = always_returns_same g (λ a r. is_lt r ≡ is_lt (order a.0.now a.1.0.now)) f (λ a r f' k. (ap is_lt (h a r f' k).0, (h a r f' k).1)) in
    record { same = same; rises = rises less ranks compares; stable = stable less ranks compares }

filter-map : {A B : Type 0} (test : B → Bool) (f : A → B) (xs : List A) → filter test (map f xs) ≡ map f (filter (λ x. test (f x)) xs)
filter-map test f [] = refl
filter-map test f (x ∷ xs) =
    elim (test (f x)) as (λ v. cond v (f x ∷ filter test (map f xs)) (filter test (map f xs)) ≡ map f (cond v (x ∷ filter (λ y. test (f y)) xs) (filter (λ y. test (f y)) xs))) [
      | true ↦ ap (λ ys. f x ∷ ys) (filter-map test f xs)
      | false ↦ filter-map test f xs
    ]

-- items that are made of others, and give them back
module _ {A B : Type 0} (make : A → B) (back : B → A) (backs : (x : A) → back (make x) ≡ x) (order : B → B → Ordering) where
  all_back : (xs : List A) → map back (map make xs) ≡ xs
  all_back xs = map-map back make xs ∙ map_alike (λ x. back (make x)) (λ x. x) backs xs ∙ map-id xs

  made_again : (ys : List B) → All (λ y. make (back y) ≡ y) ys → map make (map back ys) ≡ ys
  made_again [] h = refl
  made_again (y ∷ ys) h =
      let made : B → Type 0 = λ y. make (back y) ≡ y in
      cc (All-head made y ys h, made_again ys (All-tail made y ys h))

  -- in order, they give the others in order
  pub arranged_back : (xs : List A) (ys : List B) → IsArranged order (map make xs) ys → IsArranged (λ x y. order (make x) (make y)) xs (map back ys)
  arranged_back xs ys a =
      let made : B → Type 0 = λ y. make (back y) ≡ y in
      let each = All-permutation made (map make xs) ys a.same (All-map made make xs (λ k d within. ap make (backs _))) in
      let again : map make (map back ys) ≡ ys = made_again ys each in
      let rises : IsSorted order (map make (map back ys)) = subst (IsSorted order) (sym again) a.rises in
      let stable : IsStable order (map make xs) (map make (map back ys)) = subst (IsStable order (map make xs)) (sym again) a.stable in
      let tied : A → A → Bool = ties (λ x y. is_lt (order (make x) (make y))) in
      record {
        same = subst (λ (zs : List A). IsPermutation zs (map back ys)) (all_back xs) (IsPermutation-map back (map make xs) ys a.same);
        rises = λ k d low high.
            let zs = map back ys in
            let long = length-map zs make in
            let here = get_or-map make zs k d (make d) (omega arith) in
            let next = get_or-map make zs (k + 1) d (make d) high in
            rw (here, next) at (rises k (make d) low (omega arith));
        stable = λ x.
            let test : B → Bool = ties (λ u v. is_lt (order u v)) (make x) in
            sym (all_back (filter (tied x) (map back ys)))
            ∙ ap (map back) (sym (filter-map test make (map back ys)) ∙ stable (make x) ∙ filter-map test make xs)
            ∙ all_back (filter (tied x) xs);
      }
