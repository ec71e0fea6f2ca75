-- What is known where no entry passes a test of those before it and of itself.
use Rattle.std.proofs.Common.{◌≡◌, ℕ, ◌==◌, List, [], ◌∷◌, ◌++◌, map, Bool, true, false, cond, ◌||◌, Option, Some, None, refl, sym, ap, ◌∙◌, inl, inr}
use Rattle.std.specs.List.{list_any}
use Rattle.std.proofs.lemmas.Bool.{false≢true, eq-eqb}
use Rattle.std.proofs.lemmas.List.Folds.{list_any-append}
use Rattle.values.specs.Lists.{IsIn, IsAway, AreDistinct}
use Rattle.glue_shared.specs.Names.{has_number}
use Rattle.glue_faults.specs.First.{first_after}
use Rattle.glue_faults.proofs.First.{neither, not_here}

-- each entry fails the test, with some entries before it
pub after-none : {A : Type 0} (test : List A → A → Bool) (before xs : List A) (x : A) → first_after test before xs ≡ None → IsIn x xs
    → (front : List A) × (test front x ≡ false)
after-none test before [] x h i = absurd i
after-none test before (y ∷ xs) x h i =
    let n = not_here (test before y) y (first_after test (before ++ y ∷ []) xs) h in
    elim i [ inl e ↦ (before, ap (test before) e ∙ n.0) | inr later ↦ after-none test (before ++ y ∷ []) xs x n.1 later ]

same_number : (n : ℕ) → (n == n) ≡ true
same_number n = eq-eqb n n refl

-- a number that is one of the last is among all
last_there : (n : ℕ) (before : List ℕ) → has_number n (before ++ n ∷ []) ≡ true
last_there n [] = rw (same_number n) refl
last_there n (k ∷ before) = last (k == n) (last_there n before)
  where
    last : (b : Bool) {rest : Bool} → rest ≡ true → (b || rest) ≡ true
    last true h = refl
    last false h = h

map_last : {A : Type 0} (f : A → ℕ) (before : List A) (x : A) → map f (before ++ x ∷ []) ≡ map f before ++ f x ∷ []
map_last f [] x = refl
map_last f (y ∷ before) x = ap (λ (ns : List ℕ). f y ∷ ns) (map_last f before x)

-- what isn't among more isn't among less
fewer : (n k : ℕ) (before : List ℕ) → has_number n (before ++ k ∷ []) ≡ false → has_number n before ≡ false
fewer n k before h = (neither (has_number n before) (has_number n (k ∷ [])) (sym (list_any-append (λ j. j == n) before (k ∷ [])) ∙ h)).0

-- of the numbers that entries have none stands twice, and none is one of those before
pub record AreNew {A : Type 0} (f : A → ℕ) (before xs : List A) : Type 0 where
  pub distinct : AreDistinct (map f xs)
  pub away : (x : A) → IsIn x xs → has_number (f x) (map f before) ≡ false

module _ {A : Type 0} (test : List A → A → Bool) (f : A → ℕ) (told : (before : List A) (x : A) → test before x ≡ false → has_number (f x) (map f before) ≡ false) where
  -- an entry whose number is one of these
  with_number : (n : ℕ) (xs : List A) → IsIn n (map f xs) → (x : A) × IsIn x xs × (n ≡ f x)
  with_number n [] i = absurd i
  with_number n (x ∷ xs) (inl e) = (x, inl refl, e)
  with_number n (x ∷ xs) (inr i) = let r = with_number n xs i in (r.0, inr r.1, r.2)

  -- where a number that is told makes an entry pass, and none passes, the numbers are new
  pub new_numbers : (before xs : List A) → first_after test before xs ≡ None → AreNew f before xs
  new_numbers before [] h = record { distinct = tt; away = λ x i. absurd i }
  new_numbers before (y ∷ xs) h =
      let n = not_here (test before y) y (first_after test (before ++ y ∷ []) xs) h in
      let rest = new_numbers (before ++ y ∷ []) xs n.1 in record {
        distinct = (
          λ i.
              let r = with_number (f y) xs i in
              false≢true (sym (rest.away r.0 r.1) ∙ ap (has_number (f r.0)) (map_last f before y) ∙ ap (λ k. has_number k (map f before ++ f y ∷ [])) (sym r.2) ∙ last_there (f y) (map f before)),
          rest.distinct,
        );
        away = λ x i. elim i [
          | inl e ↦ ap (λ z. has_number (f z) (map f before)) e ∙ told before y n.0
          | inr later ↦ fewer (f x) (f y) (map f before) (ap (has_number (f x)) (sym (map_last f before y)) ∙ rest.away x later)
        ];
      }
