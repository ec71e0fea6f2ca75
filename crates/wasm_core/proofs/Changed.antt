-- The first entry that passes a test is changed where it stands.
use Rattle.std.proofs.Common.{◌≡◌, ℕ, suc, ◌+◌, ◌<◌, Bool, List, [], ◌∷◌, ◌++◌, length, get_or, set, Some, None, refl, sym, ap, ◌∙◌, arith, inl, inr}
use Rattle.std.specs.List.{position_from}
use Rattle.std.proofs.lemmas.Bool.{cases_Bool}
use Rattle.wasm_core.specs.Edits.{first_changed}

module _ {A : Type 0} (test : A → Bool) (change : A → A) (new : A) where
  -- place k is the d-th of the list, and the entry there is the one that is changed
  pub record IsChangedAt (xs : List A) (i k : ℕ) : Type 0 where
    pub d : ℕ
    pub place : k ≡ i + d
    pub within : d < length xs
    pub changed : (x : A) → first_changed test change new xs ≡ set xs d (change (get_or xs d x))

  -- where the test passes first, the entry is changed
  pub changed_from : (xs : List A) (i k : ℕ) → position_from test i xs ≡ Some k → IsChangedAt xs i k
  unfolding first_changed
  changed_from [] i k e = cc
  changed_from (y ∷ ys) i k e = elim (cases_Bool (test y)) [
    | inl holds ↦ record {
      d = 0;
      place = let at : Some i ≡ Some k = rw holds at e in let same : i ≡ k = cc in omega arith;
      within = omega arith;
      changed = λ x. rw holds refl;
    }
    | inr fails ↦
        let r : IsChangedAt ys (i + 1) k = changed_from ys (i + 1) k (rw fails at e) in record {
          d = suc r.d;
          place = omega (arith, r.place);
          within = omega (arith, r.within);
          changed = λ x. rw fails (ap (λ zs. y ∷ zs) (r.changed x));
        }
  ]

  -- where it passes nowhere, the new entry is last
  pub added_from : (xs : List A) (i : ℕ) → position_from test i xs ≡ None
      → first_changed test change new xs ≡ xs ++ new ∷ []
  unfolding first_changed
  added_from [] i e = refl
  added_from (y ∷ ys) i e = elim (cases_Bool (test y)) [
    | inl holds ↦ let at : Some i ≡ None = rw holds at e in cc
    | inr fails ↦ rw fails (ap (λ zs. y ∷ zs) (added_from ys (i + 1) (rw fails at e)))
  ]

  -- a copy with the first entry changed
  pub set_first : (xs ys : List A) (k : ℕ) (x y : A) → position_from test 0 xs ≡ Some k → ys ≡ xs → x ≡ get_or ys k x
      → y ≡ change x → set ys k y ≡ first_changed test change new xs
  set_first xs ys k x y e same here is =
      let at : IsChangedAt xs 0 k = changed_from xs 0 k e in
      let d : at.d ≡ k = omega (arith, at.place) in
      let found : get_or xs at.d x ≡ x = cc in
      let changed : first_changed test change new xs ≡ set xs at.d (change (get_or xs at.d x)) = at.changed x in
      cc

  -- the place of the first entry is one of the copy's
  pub first_within : (xs ys : List A) (k : ℕ) → position_from test 0 xs ≡ Some k → ys ≡ xs → k < length ys
  first_within xs ys k e same =
      let at : IsChangedAt xs 0 k = changed_from xs 0 k e in
      omega (arith, at.place, at.within, ap length same)

  -- a copy with the new entry behind it
  pub push_last : (xs ys : List A) → position_from test 0 xs ≡ None → ys ≡ xs ++ new ∷ []
      → ys ≡ first_changed test change new xs
  push_last xs ys e is = is ∙ sym (added_from xs 0 e)
