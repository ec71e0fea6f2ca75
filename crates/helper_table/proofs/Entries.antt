-- Entries whose keys ascend: what stands among them is found, and what is found stands there.
use Rattle.std.proofs.Common.{◌≡◌, ℕ, List, [], ◌∷◌, Bool, true, false, inl, inr, refl, sym, ap, ◌∙◌, subst, cond}
use Rattle.std.specs.Prelude.{Some, unwrap_or}
use Rattle.std.specs.List.{AllByRecursion}
use Rattle.std.specs.List.Sorted.{IsStrictlySortedBy}
use Rattle.std.specs.Map.{keys_of}
use Rattle.std.specs.Ordering.{nat_cmp, eq_by_cmp, is_eq, ordering_reverse}
use Rattle.std.specs.Cmp.{Equal-is, tied_itself}
use Rattle.std.specs.declared.cmp.Ordering.TheVariants.{Less}
use Rattle.std.specs.Cmp.Lexicographic.{slice_cmp, nat_list_cmp_total}
use Rattle.std.specs.FinSet as set
use Rattle.values.specs.Lists.{IsIn}
use Rattle.values.specs.Map.{look_up, AreInOrder}

module _ {X : Type 0} where
  -- a key that is above those in front of it
  less_than : (first : List ℕ) (k : List ℕ) (v : X) (es : List (List ℕ × X)) → AllByRecursion (λ y. slice_cmp nat_cmp first y ≡ Less) (keys_of es)
      → IsIn (k, v) es → slice_cmp nat_cmp first k ≡ Less
  less_than first k v [] h at = absurd at
  less_than first k v (e ∷ es) h (inl same) = subst (λ (x : List ℕ × X). slice_cmp nat_cmp first x.0 ≡ Less) (sym same) h.0
  less_than first k v (e ∷ es) h (inr at) = less_than first k v es h.1 at

  -- what stands among entries is found
  pub is_found : (es : List (List ℕ × X)) → AreInOrder (slice_cmp nat_cmp) es → (k : List ℕ) (v : X) → IsIn (k, v) es
      → look_up (slice_cmp nat_cmp) es k ≡ Some v
  unfolding IsStrictlySortedBy
  is_found [] order k v at = absurd at
  is_found (e ∷ es) order k v (inl same) =
      subst (λ (x : List ℕ × X). look_up (slice_cmp nat_cmp) (x ∷ es) k ≡ Some v) same
      (ap (λ b. cond b (Some v) (look_up (slice_cmp nat_cmp) es k)) (ap is_eq (tied_itself nat_list_cmp_total k)))
  is_found (e ∷ es) order k v (inr at) =
      let apart : eq_by_cmp (slice_cmp nat_cmp) k e.0 ≡ false =
      ap is_eq (nat_list_cmp_total.antisymm k e.0 ∙ ap ordering_reverse (less_than e.0 k v es order.0 at)) in
      ap (λ b. cond b (Some e.1) (look_up (slice_cmp nat_cmp) es k)) apart ∙ is_found es order.1 k v at

  -- and what is found stands there
  pub stands : (es : List (List ℕ × X)) (k : List ℕ) (v : X) → look_up (slice_cmp nat_cmp) es k ≡ Some v → IsIn (k, v) es
  stands [] k v h = cc
  stands (e ∷ es) k v h = by (eq_by_cmp (slice_cmp nat_cmp) k e.0) refl h (stands es k v)
    where
      same_key : eq_by_cmp (slice_cmp nat_cmp) k e.0 ≡ true → k ≡ e.0
      same_key t = set.slice_cmp-IsAntisymmetric set.nat_cmp-IsAntisymmetric k e.0 ((Equal-is (slice_cmp nat_cmp k e.0)).0 t)

      by : (b : Bool) → eq_by_cmp (slice_cmp nat_cmp) k e.0 ≡ b → cond b (Some e.1) (look_up (slice_cmp nat_cmp) es k) ≡ Some v
          → (look_up (slice_cmp nat_cmp) es k ≡ Some v → IsIn (k, v) es) → IsIn (k, v) (e ∷ es)
      by true t q rest = inl (ap (λ (x : List ℕ). (x, v)) (same_key t) ∙ ap (λ (w : X). (e.0, w)) (sym (ap (λ o. unwrap_or o v) q)))
      by false t q rest = inr (rest q)
