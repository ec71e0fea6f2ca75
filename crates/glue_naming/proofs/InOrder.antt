-- What a stable sort gives: the items in their order, those that tie as they stood.
use Rattle.std.proofs.Common.{◌≡◌, ◌+◌, Bool, true, false, cond, true≢false, not, ◌&&◌, List, [], ◌∷◌, map, filter, refl, sym, ap, subst, ◌∙◌, ◌⊎◌, inl, inr, arith, Bor, Ordering}
use Rattle.std.specs.Cmp.{IsStrictWeakOrder, IsTotalOrder}
use Rattle.std.specs.Fn.{Called}
use Rattle.std.specs.List.Sorted.{IsSortedBy, IsSortedByClosure, IsStableBy, IsStableByClosure, ties}
use Rattle.std.specs.Ordering.{is_lt}
use Rattle.std.proofs.lemmas.Fn.{always_returns_same}
use Rattle.std.proofs.lemmas.List.Sorted.{ranks_by}
use denote.Param.Members.{Mut}
use native.Mathlib.Numerals.{unary_clauses}
use Rattle.values.specs.Lists.{IsIn}
use Rattle.glue_exports.proofs.Joined.{from_filter, in_filter}
use Rattle.glue_naming.specs.Arranged.{in_order, put_before}

-- ---- truths and lists

neither : (a b : Bool) → a ≡ false → b ≡ false → (not a && not b) ≡ true
neither false false h k = refl
neither false true h k = absurd (true≢false k)
neither true b h k = absurd (true≢false h)

not_parts : (a b : Bool) → (not a && not b) ≡ true → (a ≡ false) × (b ≡ false)
not_parts false false h = (refl, refl)
not_parts false true h = absurd (true≢false (sym h))
not_parts true b h = absurd (true≢false (sym h))

module _ {A : Type 0} where
  heads : (y z : A) (ys zs : List A) (a b : Bool) → a ≡ true → b ≡ true → cond a (y ∷ ys) ys ≡ cond b (z ∷ zs) zs → y ≡ z
  heads y z ys zs true true h k e = cc
  heads y z ys zs true false h k e = absurd (true≢false (sym k))
  heads y z ys zs false b h k e = absurd (true≢false (sym h))

  rests : (y z : A) (ys zs : List A) (a b : Bool) → a ≡ b → cond a (y ∷ ys) ys ≡ cond b (z ∷ zs) zs → ys ≡ zs
  rests y z ys zs true true h e = cc
  rests y z ys zs false false h e = e
  rests y z ys zs true false h e = absurd (true≢false h)
  rests y z ys zs false true h e = absurd (true≢false (sym h))

  swapped : (z x : A) (rest : List A) (a b : Bool) → (a ≡ true → b ≡ true → ⊥)
      → cond a (z ∷ cond b (x ∷ rest) rest) (cond b (x ∷ rest) rest) ≡ cond b (x ∷ cond a (z ∷ rest) rest) (cond a (z ∷ rest) rest)
  swapped z x rest true true h = absurd (h refl refl)
  swapped z x rest true false h = refl
  swapped z x rest false b h = refl

-- ---- what the items in order are

module _ {A : Type 0} (order : A → A → Ordering) where
  put_case : (y x z : A) (zs : List A) (b : Bool) → (IsIn y (put_before order x zs) → (y ≡ x) ⊎ IsIn y zs)
      → IsIn y (cond b (z ∷ put_before order x zs) (x ∷ z ∷ zs)) → (y ≡ x) ⊎ IsIn y (z ∷ zs)
  put_case y x z zs true later (inl same) = inr (inl same)
  put_case y x z zs true later (inr i) = elim (later i) [ inl same ↦ inl same | inr k ↦ inr (inr k) ]
  put_case y x z zs false later (inl same) = inl same
  put_case y x z zs false later (inr i) = inr i

  in_put : (y x : A) (zs : List A) → IsIn y (put_before order x zs) → (y ≡ x) ⊎ IsIn y zs
  in_put y x [] (inl same) = inl same
  in_put y x [] (inr none) = absurd none
  in_put y x (z ∷ zs) i = put_case y x z zs (is_lt (order z x)) (in_put y x zs) i

  there_case : (y x z : A) (zs : List A) (b : Bool) → ((y ≡ x) ⊎ IsIn y zs → IsIn y (put_before order x zs)) → (y ≡ x) ⊎ IsIn y (z ∷ zs)
      → IsIn y (cond b (z ∷ put_before order x zs) (x ∷ z ∷ zs))
  there_case y x z zs true later (inl same) = inr (later (inl same))
  there_case y x z zs true later (inr (inl same)) = inl same
  there_case y x z zs true later (inr (inr i)) = inr (later (inr i))
  there_case y x z zs false later i = i

  put_there : (y x : A) (zs : List A) → (y ≡ x) ⊎ IsIn y zs → IsIn y (put_before order x zs)
  put_there y x [] i = i
  put_there y x (z ∷ zs) i = there_case y x z zs (is_lt (order z x)) (put_there y x zs) i

  pub in_order_from : (y : A) (xs : List A) → IsIn y (in_order order xs) → IsIn y xs
  in_order_from y [] i = i
  in_order_from y (x ∷ xs) i = elim (in_put y x (in_order order xs) i) [ inl same ↦ inl same | inr k ↦ inr (in_order_from y xs k) ]

  pub in_order_has : (y : A) (xs : List A) → IsIn y xs → IsIn y (in_order order xs)
  in_order_has y [] i = i
  in_order_has y (x ∷ xs) (inl same) = put_there y x (in_order order xs) (inl same)
  in_order_has y (x ∷ xs) (inr i) = put_there y x (in_order order xs) (inr (in_order_has y xs i))

-- ---- lists that rise by an order

module _ {A : Type 0} (order : A → A → Ordering) (o : IsStrictWeakOrder (λ x y. is_lt (order x y))) where
  abbrev lt : A → A → Bool
  lt x y = is_lt (order x y)

  -- no item is less than one in front of it
  abbrev Rises : List A → Type 0
  Rises [] = Unit {0}
  Rises (x ∷ xs) = ((y : A) → IsIn y xs → lt y x ≡ false) × Rises xs

  not_itself : (x : A) → lt x x ≡ false
  not_itself x = by (lt x x) refl
    where
      by : (b : Bool) → lt x x ≡ b → lt x x ≡ false
      by true e = o.one_way x x e
      by false e = e

  tied_itself : (x : A) → ties lt x x ≡ true
  tied_itself x = neither (lt x x) (lt x x) (not_itself x) (not_itself x)

  least : (y z : A) (zs : List A) → Rises (z ∷ zs) → IsIn y (z ∷ zs) → lt y z ≡ false
  least y z zs r (inl same) = ap (λ w. lt w z) same ∙ not_itself z
  least y z zs r (inr i) = r.0 y i

  own_tie : (x : A) (xs : List A) → IsIn x (filter (ties lt x) (x ∷ xs))
  own_tie x xs = in_filter (ties lt x) x (x ∷ xs) (inl refl) (tied_itself x)

  -- two that rise, with the same ties for each item, are one
  unique : (ys zs : List A) → Rises ys → Rises zs → ((x : A) → filter (ties lt x) ys ≡ filter (ties lt x) zs) → ys ≡ zs
  unique [] [] r s h = refl
  unique [] (z ∷ zs) r s h = absurd (subst (IsIn z) (sym (h z)) (own_tie z zs))
  unique (y ∷ ys) [] r s h = absurd (subst (IsIn y) (h y) (own_tie y ys))
  unique (y ∷ ys) (z ∷ zs) r s h =
      let there = (from_filter (ties lt y) y (z ∷ zs) (subst (IsIn y) (h y) (own_tie y ys))).0 in
      let back = (from_filter (ties lt z) z (y ∷ ys) (subst (IsIn z) (sym (h z)) (own_tie z zs))).0 in
      let tied = neither (lt y z) (lt z y) (least y z zs s there) (least z y ys r back) in
      let same = heads y z (filter (ties lt y) ys) (filter (ties lt y) zs) (ties lt y y) (ties lt y z) (tied_itself y) tied (h y) in
      ap (λ w. w ∷ ys) same
      ∙ ap (λ ws. z ∷ ws) (unique ys zs r.1 s.1 (λ x.
      rests y z (filter (ties lt x) ys) (filter (ties lt x) zs) (ties lt x y) (ties lt x z) (ap (ties lt x) same) (h x)))

  -- ---- the items in order

  rises_case : (x z : A) (zs : List A) (b : Bool) → lt z x ≡ b → Rises (z ∷ zs) → Rises (put_before order x zs)
      → Rises (cond b (z ∷ put_before order x zs) (x ∷ z ∷ zs))
  rises_case x z zs true e r later =
      (λ y i. elim (in_put order y x zs i) [ inl same ↦ ap (λ w. lt w z) same ∙ o.one_way z x e | inr k ↦ r.0 y k ], later)
  rises_case x z zs false e r later =
      (λ y i. elim i [ inl same ↦ ap (λ w. lt w x) same ∙ e | inr k ↦ o.chain y z x (r.0 y k) e ], r)

  put_rises : (x : A) (zs : List A) → Rises zs → Rises (put_before order x zs)
  put_rises x [] r = (λ y i. absurd i, tt)
  put_rises x (z ∷ zs) r = rises_case x z zs (lt z x) refl r (put_rises x zs r.1)

  in_order_rises : (xs : List A) → Rises (in_order order xs)
  in_order_rises [] = tt
  in_order_rises (x ∷ xs) = put_rises x (in_order order xs) (in_order_rises xs)

  module _ (q : A) where
    apart : (x z : A) → lt z x ≡ true → ties lt q z ≡ true → ties lt q x ≡ true → ⊥
    apart x z e h k =
        true≢false (sym e ∙ o.chain z q x (not_parts (lt q z) (lt z q) h).1 (not_parts (lt q x) (lt x q) k).0)

    same_case : (x z : A) (zs : List A) (b : Bool) → lt z x ≡ b
        → filter (ties lt q) (put_before order x zs) ≡ filter (ties lt q) (x ∷ zs)
        → filter (ties lt q) (cond b (z ∷ put_before order x zs) (x ∷ z ∷ zs)) ≡ filter (ties lt q) (x ∷ z ∷ zs)
    same_case x z zs true e later =
        ap (λ rest. cond (ties lt q z) (z ∷ rest) rest) later
        ∙ swapped z x (filter (ties lt q) zs) (ties lt q z) (ties lt q x) (apart x z e)
    same_case x z zs false e later = refl

    put_same : (x : A) (zs : List A) → filter (ties lt q) (put_before order x zs) ≡ filter (ties lt q) (x ∷ zs)
    put_same x [] = refl
    put_same x (z ∷ zs) = same_case x z zs (lt z x) refl (put_same x zs)

    in_order_same : (xs : List A) → filter (ties lt q) (in_order order xs) ≡ filter (ties lt q) xs
    in_order_same [] = refl
    in_order_same (x ∷ xs) =
        put_same x (in_order order xs) ∙ ap (λ rest. cond (ties lt q x) (x ∷ rest) rest) (in_order_same xs)

  -- ---- what a sort ensures

  behind_first : (x : A) (xs : List A) → IsSortedBy lt (x ∷ xs) → IsSortedBy lt xs
  behind_first x xs up k d low high = simp unary_clauses (simp unary_clauses at (up (k + 1) d (omega arith) (omega (arith, high))))

  first_two : (x z : A) (zs : List A) → IsSortedBy lt (x ∷ z ∷ zs) → lt z x ≡ false
  first_two x z zs up = up 0 x (omega arith) (omega arith)

  sorted_rises : (xs : List A) → IsSortedBy lt xs → Rises xs
  sorted_rises [] up = tt
  sorted_rises (x ∷ []) up = (λ y i. absurd i, tt)
  sorted_rises (x ∷ z ∷ zs) up =
      let r = sorted_rises (z ∷ zs) (behind_first x (z ∷ zs) up) in
      let first = first_two x z zs up in
      (λ y i. elim i [ inl same ↦ ap (λ w. lt w x) same ∙ first | inr k ↦ o.chain y z x (r.0 y k) first ], r)

  sorted_is : (xs ys : List A) → IsSortedBy lt ys → IsStableBy lt xs ys → ys ≡ in_order order xs
  sorted_is xs ys up stable =
      unique ys (in_order order xs) (sorted_rises ys up) (in_order_rises xs) (λ x. stable x ∙ sym (in_order_same x xs))

-- ---- of items that are looked at by a function

module _ {A B : Type 0} (look : A → B) (order : B → B → Ordering) where
  abbrev by_look : A → A → Ordering
  by_look x y = order (look x) (look y)

  look_case : (x z : A) (zs : List A) (b : Bool) → map look (put_before by_look x zs) ≡ put_before order (look x) (map look zs)
      → map look (cond b (z ∷ put_before by_look x zs) (x ∷ z ∷ zs))
      ≡ cond b (look z ∷ put_before order (look x) (map look zs)) (look x ∷ look z ∷ map look zs)
  look_case x z zs true later = ap (λ rest. look z ∷ rest) later
  look_case x z zs false later = refl

  put_look : (x : A) (zs : List A) → map look (put_before by_look x zs) ≡ put_before order (look x) (map look zs)
  put_look x [] = refl
  put_look x (z ∷ zs) = look_case x z zs (is_lt (order (look z) (look x))) (put_look x zs)

  in_order_look : (xs : List A) → map look (in_order by_look xs) ≡ in_order order (map look xs)
  in_order_look [] = refl
  in_order_look (x ∷ xs) = put_look x (in_order by_look xs) ∙ ap (put_before order (look x)) (in_order_look xs)

  -- what `sort_by` ensures, where each call compares by the order
  pub in_order_by_sort : IsTotalOrder order → {F : Type 0} {g : Mut F (Bor A × (Bor A × Unit {0})) Ordering} {f : F}
      (xs ys : List A) → IsSortedByClosure g f ys → IsStableByClosure g f xs ys
      → ((a : Bor A × (Bor A × Unit {0})) (r : Ordering) (f' : F) → Called g f a r f' → (r ≡ order (look a.0.now) (look a.1.0.now)) × (f' ≡ f))
      → map look ys ≡ in_order order (map look xs)
  in_order_by_sort total {g = g} {f = f} xs ys up stable h =
      let lt = λ (x y : A). is_lt (order (look x) (look y)) in
      let weak = ranks_by total look in
      let answers = always_returns_same g (λ a r. is_lt r ≡ is_lt (order (look a.0.now) (look a.1.0.now))) f
      (λ a r f' k. (ap is_lt (h a r f' k).0, (h a r f' k).1)) in
      ap (map look) (sorted_is by_look weak xs ys (up lt weak answers) (stable lt weak answers)) ∙ in_order_look xs
