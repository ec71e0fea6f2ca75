-- What is in a list of answers, members and entries that pass a test, and what is read of entries.
use Rattle.glue_context.proofs.Common.{◌≡◌, ℕ, zero, suc, inl, inr, List, [], ◌∷◌, map, Bool, true, false, true≢false, refl, sym, ap, ◌∙◌, filter_map, list_any, Option, Some, None, option_map, IsIn, entry_at}
use Rattle.std.specs.Prelude.{◌||◌}
use Rattle.std.specs.List.{cons_option}
use Rattle.std.proofs.lemmas.Option.{same_Some}

-- ---- answers

-- an answer is that of one of the list
pub from_filter_map : {A B : Type 0} (f : A → Option B) (xs : List A) (y : B) → IsIn y (filter_map f xs) → (x : A) × IsIn x xs × (f x ≡ Some y)
from_filter_map f [] y i = absurd i
from_filter_map {A = A} {B = B} f (x ∷ xs) y i = by (λ k. let r = from_filter_map f xs y k in (r.0, inr r.1, r.2)) (f x) refl i
  where
    by : (IsIn y (filter_map f xs) → (z : A) × IsIn z (x ∷ xs) × (f z ≡ Some y)) → (o : Option B) → f x ≡ o → IsIn y (cons_option o (filter_map f xs))
        → (z : A) × IsIn z (x ∷ xs) × (f z ≡ Some y)
    by rest None q k = rest k
    by rest (Some z) q (inl same) = (x, inl refl, q ∙ ap (λ (v : B). Some v) (sym same))
    by rest (Some z) q (inr k) = rest k

pub in_filter_map : {A B : Type 0} (f : A → Option B) (xs : List A) (x : A) (y : B) → IsIn x xs → f x ≡ Some y → IsIn y (filter_map f xs)
in_filter_map f [] x y i h = absurd i
in_filter_map {B = B} f (z ∷ xs) x y (inl same) h = rw (ap f (sym same) ∙ h) (inl refl)
in_filter_map {B = B} f (z ∷ xs) x y (inr i) h = by (f z) (in_filter_map f xs x y i h)
  where
    by : (o : Option B) → IsIn y (filter_map f xs) → IsIn y (cons_option o (filter_map f xs))
    by None k = k
    by (Some v) k = inr k

-- ---- tests

-- a test that one of the list passes
pub any_there : {A : Type 0} (test : A → Bool) (xs : List A) (x : A) → IsIn x xs → test x ≡ true → list_any test xs ≡ true
any_there test [] x i h = absurd i
any_there test (y ∷ xs) x (inl same) h = rw (ap test (sym same) ∙ h) refl
any_there test (y ∷ xs) x (inr i) h = by (test y) (any_there test xs x i h)
  where
    by : (b : Bool) → list_any test xs ≡ true → (b || list_any test xs) ≡ true
    by true q = refl
    by false q = q

pub one_of_any : {A : Type 0} (test : A → Bool) (xs : List A) → list_any test xs ≡ true → (x : A) × IsIn x xs × (test x ≡ true)
one_of_any test [] h = absurd (true≢false (sym h))
one_of_any {A = A} test (x ∷ xs) h = by (test x) refl h (λ q. let r = one_of_any test xs q in (r.0, inr r.1, r.2))
  where
    by : (b : Bool) → test x ≡ b → (b || list_any test xs) ≡ true → (list_any test xs ≡ true → (y : A) × IsIn y (x ∷ xs) × (test y ≡ true))
        → (y : A) × IsIn y (x ∷ xs) × (test y ≡ true)
    by true q k rest = (x, inl refl, q)
    by false q k rest = rest k

-- ---- entries

-- what is read of an entry
pub mapped_entry : {A B : Type 0} (f : A → B) (xs : List (Option A)) (k : ℕ) → entry_at (map (λ (o : Option A). option_map f o) xs) k ≡ option_map f (entry_at xs k)
mapped_entry f [] k = refl
mapped_entry f (x ∷ xs) zero = refl
mapped_entry f (x ∷ xs) (suc k) = mapped_entry f xs k

-- an option that is some value of another one
pub mapped_some : {A B : Type 0} (f : A → B) (o : Option A) (y : B) → option_map f o ≡ Some y → (x : A) × (o ≡ Some x) × (f x ≡ y)
mapped_some f None y h = cc
mapped_some f (Some x) y h = (x, refl, same_Some (f x) y h)

-- an entry that passes a test
pub any_entry : {A : Type 0} (test : Option A → Bool) → test None ≡ false → (xs : List (Option A)) → list_any test xs ≡ true
    → (k : ℕ) × (x : A) × (entry_at xs k ≡ Some x) × (test (Some x) ≡ true)
any_entry test none [] h = absurd (true≢false (sym h))
any_entry test none (None ∷ xs) h =
    let rest = any_entry test none xs (sym (ap (λ (b : Bool). b || list_any test xs) none) ∙ h) in (suc rest.0, rest.1, rest.2, rest.3)
any_entry {A = A} test none (Some x ∷ xs) h = by (test (Some x)) refl h (λ q. any_entry test none xs q)
  where
    by : (b : Bool) → test (Some x) ≡ b → (b || list_any test xs) ≡ true
        → (list_any test xs ≡ true → (k : ℕ) × (y : A) × (entry_at xs k ≡ Some y) × (test (Some y) ≡ true))
        → (k : ℕ) × (y : A) × (entry_at (Some x ∷ xs) k ≡ Some y) × (test (Some y) ≡ true)
    by true q k rest = (zero, x, refl, q)
    by false q k rest = let r = rest k in (suc r.0, r.1, r.2, r.3)
