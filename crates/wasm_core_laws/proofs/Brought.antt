-- Imported entries and what imports bring in, where some of both are left out.
use Rattle.std.proofs.Common.{◌≡◌, ℕ, zero, suc, ◌+◌, ◌<◌, Bool, true, false, cond, eqb, List, [], ◌∷◌, ◌++◌, set, Option, Some, None, refl, sym, ap, subst, ◌∙◌, arith, ne_eqb, eq-eqb}
use Rattle.std.specs.Prelude.{not}
use Rattle.std.specs.List.{filter, filter_map, cons_option}
use Rattle.std.specs.Option.{option_map}
use Rattle.std.proofs.lemmas.List.Elements.{filter-append}
use Rattle.std.proofs.lemmas.Option.{none-some, same_Some}
use Rattle.wasm_emission.specs.Emission.{live}
use Rattle.wasm_collect.specs.Reach.{entry_at, passes, places}
use Rattle.wasm_core_laws.proofs.Entries.{altered}

-- what passes stays in front
pub front_kept : {A : Type 0} (p : A → Bool) (o : Option A) (xs : List A) → ((x : A) → o ≡ Some x → p x ≡ true) → filter p (cons_option o xs) ≡ cons_option o (filter p xs)
front_kept p None xs h = refl
front_kept p (Some x) xs h = ap (λ b. cond b (x ∷ filter p xs) (filter p xs)) (h x refl)

-- what doesn't pass is left out
pub front_gone : {A : Type 0} (p : A → Bool) (o : Option A) (xs : List A) → ((x : A) → o ≡ Some x → p x ≡ false) → filter p (cons_option o xs) ≡ filter p xs
front_gone p None xs h = refl
front_gone p (Some x) xs h = ap (λ b. cond b (x ∷ filter p xs) (filter p xs)) (h x refl)

-- every number but one
abbrev pub is_another : ℕ → ℕ → Bool
is_another t p = not (eqb p t)

-- another number passes
other_kept : (t p : ℕ) → (p ≡ t → ⊥) → is_another t p ≡ true
other_kept t p ne = ap not (ne_eqb p t ne)

-- the number itself doesn't
same_gone : (t p : ℕ) → p ≡ t → is_another t p ≡ false
same_gone t p e = ap not (eq-eqb p t e)

module _ {A : Type 0} (f : A → Option ℕ) where
  -- where an entry that brings in nothing is dropped, the live ones bring in what they did
  pub nothing_dropped : (xs : List (Option A)) (i : ℕ) (x : A) → entry_at xs i ≡ Some x → f x ≡ None → filter_map f (live (set xs i None)) ≡ filter_map f (live xs)
  nothing_dropped [] i x is none = refl
  nothing_dropped (Some y ∷ xs) zero x is none =
      let here : f y ≡ None = ap f (same_Some y x is) ∙ none in
      ap (λ o. cons_option o (filter_map f (live xs))) (sym here)
  nothing_dropped (None ∷ xs) zero x is none = refl
  nothing_dropped (Some y ∷ xs) (suc i) x is none = ap (cons_option (f y)) (nothing_dropped xs i x is none)
  nothing_dropped (None ∷ xs) (suc i) x is none = nothing_dropped xs i x is none

  -- where none brings in the number, leaving it out changes nothing
  none_left_out : (t : ℕ) (xs : List (Option A)) → ((j : ℕ) (y : A) → entry_at xs j ≡ Some y → f y ≡ Some t → ⊥) → filter (is_another t) (filter_map f (live xs)) ≡ filter_map f (live xs)
  none_left_out t [] none = refl
  none_left_out t (None ∷ xs) none = none_left_out t xs (λ j. none (suc j))
  none_left_out t (Some y ∷ xs) none =
      front_kept (is_another t) (f y) (filter_map f (live xs)) (λ p is. other_kept t p (λ e. none zero y refl (is ∙ ap Some e)))
      ∙ ap (cons_option (f y)) (none_left_out t xs (λ j. none (suc j)))

  -- where the one entry that brings in a number is dropped, the number is left out
  pub one_dropped : (t : ℕ) (xs : List (Option A)) (i : ℕ) (x : A) → entry_at xs i ≡ Some x → f x ≡ Some t → ((j : ℕ) (y : A) → entry_at xs j ≡ Some y → f y ≡ Some t → j ≡ i) → filter_map f (live (set xs i None)) ≡ filter (is_another t) (filter_map f (live xs))
  one_dropped t [] i x is brings only = refl
  one_dropped t (None ∷ xs) zero x is brings only = absurd (none-some x is)
  one_dropped t (Some y ∷ xs) zero x is brings only =
      let here : f y ≡ Some t = ap f (same_Some y x is) ∙ brings in
      sym (front_gone (is_another t) (f y) (filter_map f (live xs)) (λ p e. same_gone t p (same_Some p t (sym e ∙ here)))
      ∙ none_left_out t xs (λ j z at e. let no : suc j ≡ 0 = only (suc j) z at e in absurd (omega (arith, no))))
  one_dropped t (None ∷ xs) (suc i) x is brings only = one_dropped t xs i x is brings (λ j y at e. let same : suc j ≡ suc i = only (suc j) y at e in omega (arith, same))
  one_dropped t (Some y ∷ xs) (suc i) x is brings only =
      ap (cons_option (f y)) (one_dropped t xs i x is brings (λ j z at e. let same : suc j ≡ suc i = only (suc j) z at e in omega (arith, same)))
      ∙ sym (front_kept (is_another t) (f y) (filter_map f (live xs)) (λ p e. other_kept t p (λ same. let no : 0 ≡ suc i = only zero y refl (e ∙ ap Some same) in absurd (omega (arith, no)))))

module _ {A : Type 0} (test : A → Bool) where
  -- a number below the first place is at none
  none_before : (t k : ℕ) (xs : List (Option A)) → t < k → filter (is_another t) (places test k xs) ≡ places test k xs
  unfolding places
  none_before t k [] lt = refl
  none_before t k (x ∷ xs) lt =
      filter-append (is_another t) (cond (passes test x) (k ∷ []) []) (places test (k + 1) xs)
      ∙ ap (λ ps. ps ++ filter (is_another t) (places test (k + 1) xs)) (one (passes test x))
      ∙ ap (λ ps. cond (passes test x) (k ∷ []) [] ++ ps) (none_before t (k + 1) xs (omega arith))
    where
      one : (b : Bool) → filter (is_another t) (cond b (k ∷ []) []) ≡ cond b (k ∷ []) []
      one true = ap (λ b. cond b (k ∷ []) []) (other_kept t k (λ e. absurd (omega (arith, e, lt))))
      one false = refl

  -- where the entry at a place is changed and fails the test, the place is left out
  pub place_gone : (g : A → A) → ((x : A) → test (g x) ≡ false) → (i k : ℕ) (xs : List (Option A)) → places test k (altered g i xs) ≡ filter (is_another (k + i)) (places test k xs)
  unfolding places
  place_gone g fails i k [] = refl
  place_gone g fails zero k (x ∷ xs) =
      let here : k ≡ k + 0 = omega arith in
      subst (λ (t : ℕ). places test k (altered g zero (x ∷ xs)) ≡ filter (is_another t) (places test k (x ∷ xs))) here
      (ap (λ ps. ps ++ places test (k + 1) xs) (none x)
      ∙ sym (filter-append (is_another k) (cond (passes test x) (k ∷ []) []) (places test (k + 1) xs)
      ∙ ap (λ ps. ps ++ filter (is_another k) (places test (k + 1) xs)) (gone (passes test x))
      ∙ none_before k (k + 1) xs (omega arith)))
    where
      none : (y : Option A) → cond (passes test (option_map g y)) (k ∷ []) [] ≡ []
      none (Some y) = ap (λ b. cond b (k ∷ []) []) (fails y)
      none None = refl

      gone : (b : Bool) → filter (is_another k) (cond b (k ∷ []) []) ≡ []
      gone true = ap (λ b. cond b (k ∷ []) []) (same_gone k k refl)
      gone false = refl
  place_gone g fails (suc i) k (x ∷ xs) =
      let next : k + 1 + i ≡ k + suc i = omega arith in
      ap (λ ps. cond (passes test x) (k ∷ []) [] ++ ps) (subst (λ (t : ℕ). places test (k + 1) (altered g i xs) ≡ filter (is_another t) (places test (k + 1) xs)) next (place_gone g fails i (k + 1) xs))
      ∙ sym (filter-append (is_another (k + suc i)) (cond (passes test x) (k ∷ []) []) (places test (k + 1) xs)
      ∙ ap (λ ps. ps ++ filter (is_another (k + suc i)) (places test (k + 1) xs)) (one (passes test x)))
    where
      one : (b : Bool) → filter (is_another (k + suc i)) (cond b (k ∷ []) []) ≡ cond b (k ∷ []) []
      one true = ap (λ b. cond b (k ∷ []) []) (other_kept (k + suc i) k (λ e. absurd (omega (arith, e))))
      one false = refl
