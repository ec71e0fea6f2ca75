-- What holds of each item of a list that is made of others, and how many pass a test.
use Rattle.std.proofs.Common.{◌≡◌, ℕ, zero, suc, ◌+◌, ◌≤◌, Bool, true, false, cond, List, [], ◌∷◌, map, length, take, Option, Some, None, refl, sym, ap, ◌∙◌, arith, inl, inr}
use Rattle.std.specs.Prelude.{count_by, is_some}
use Rattle.std.specs.List.{AllByRecursion, filter, filter_map, flat_map, cons_option, enumerate_from}
use Rattle.std.proofs.lemmas.Bool.{cases_Bool}
use Rattle.std.proofs.lemmas.List.Elements.{filter_agree}
use Rattle.std.proofs.lemmas.List.Sums.{count_by-le-length, length-filter, sum_by-cons}
use Rattle.wasm_file_laws.proofs.EachItem.{all_weaker, all_both, all_apart}
use Rattle.wasm_emission.proofs.Filed.{counted}
use Rattle.wasm_core_laws.specs.ModuleFits.{IfThere}

-- what holds of what is made of each
pub all_map : {A B : Type 0} (P : B → Type 0) (f : A → B) (xs : List A) → AllByRecursion (λ x. P (f x)) xs → AllByRecursion P (map f xs)
all_map P f [] h = tt
all_map P f (x ∷ xs) h = (h.0, all_map P f xs h.1)

-- what follows of what is made of each
pub all_mapped : {A B : Type 0} (P : A → Type 0) (Q : B → Type 0) (f : A → B) → ((x : A) → P x → Q (f x)) → (xs : List A) → AllByRecursion P xs → AllByRecursion Q (map f xs)
all_mapped P Q f step xs h = all_map Q f xs (all_weaker P (λ x. Q (f x)) step xs h)

-- two things that hold of each
pub all_pairs : {A : Type 0} (P Q : A → Type 0) (xs : List A) → AllByRecursion P xs → AllByRecursion Q xs → AllByRecursion (λ x. P x × Q x) xs
all_pairs P Q [] h k = tt
all_pairs P Q (x ∷ xs) h k = ((h.0, k.0), all_pairs P Q xs h.1 k.1)

-- of the items of the lists that stand for each
pub all_flat : {A B : Type 0} (P : B → Type 0) (f : A → List B) (xs : List A) → AllByRecursion (λ x. AllByRecursion P (f x)) xs → AllByRecursion P (flat_map f xs)
all_flat P f [] h = tt
all_flat P f (x ∷ xs) h = all_both P (f x) (flat_map f xs) h.0 (all_flat P f xs h.1)

-- the other way round
pub all_flattened : {A B : Type 0} (P : B → Type 0) (f : A → List B) (xs : List A) → AllByRecursion P (flat_map f xs) → AllByRecursion (λ x. AllByRecursion P (f x)) xs
all_flattened P f [] h = tt
all_flattened P f (x ∷ xs) h = let p = all_apart P (f x) (flat_map f xs) h in (p.0, all_flattened P f xs p.1)

-- of what is kept, where it holds of what there is
pub all_kept : {A B : Type 0} (P : B → Type 0) (h : A → Option B) (xs : List A) → AllByRecursion (λ x. IfThere P (h x)) xs → AllByRecursion P (filter_map h xs)
all_kept P h [] all = tt
all_kept P h (x ∷ xs) all = more P (h x) (filter_map h xs) all.0 (all_kept P h xs all.1)
  where
    more : {B : Type 0} (P : B → Type 0) (o : Option B) (ys : List B) → IfThere P o → AllByRecursion P ys → AllByRecursion P (cons_option o ys)
    more P (Some y) ys first others = (first, others)
    more P None ys first others = others

-- what follows of what is kept
pub all_chosen : {A B : Type 0} (P : A → Type 0) (Q : B → Type 0) (h : A → Option B) → ((x : A) → P x → IfThere Q (h x)) → (xs : List A) → AllByRecursion P xs → AllByRecursion Q (filter_map h xs)
all_chosen P Q h step xs all = all_kept Q h xs (all_weaker P (λ x. IfThere Q (h x)) step xs all)

-- of each that passes a test, with that
pub all_filtered : {A : Type 0} (P : A → Type 0) (test : A → Bool) (xs : List A) → AllByRecursion P xs → AllByRecursion (λ x. P x × (test x ≡ true)) (filter test xs)
all_filtered P test [] h = tt
all_filtered P test (x ∷ xs) h = elim (cases_Bool (test x)) [
  | inl is ↦ rw is ((h.0, is), all_filtered P test xs h.1)
  | inr not ↦ rw not (all_filtered P test xs h.1)
]

-- of each that passes a test
pub all_passing : {A : Type 0} (P : A → Type 0) (test : A → Bool) (xs : List A) → AllByRecursion P xs → AllByRecursion P (filter test xs)
all_passing P test xs h = all_weaker (λ x. P x × (test x ≡ true)) P (λ x k. k.0) (filter test xs) (all_filtered P test xs h)

-- of each item with its place
pub all_placed : {A : Type 0} (P : A → Type 0) (from : ℕ) (xs : List A) → AllByRecursion P xs → AllByRecursion (λ q. P q.1) (enumerate_from from xs)
all_placed P from [] h = tt
all_placed P from (x ∷ xs) h = (h.0, all_placed P (from + 1) xs h.1)

-- of the first items
pub all_taken : {A : Type 0} (P : A → Type 0) (i : ℕ) (xs : List A) → AllByRecursion P xs → AllByRecursion P (take i xs)
all_taken P zero xs h = tt
all_taken P (suc i) [] h = tt
all_taken P (suc i) (x ∷ xs) h = (h.0, all_taken P i xs h.1)

-- what leaves each item as it is
pub all_same : {A : Type 0} (f : A → A) (xs : List A) → AllByRecursion (λ x. f x ≡ x) xs → map f xs ≡ xs
all_same f [] h = refl
all_same f (x ∷ xs) h = ap (λ y. y ∷ map f xs) h.0 ∙ ap (λ ys. x ∷ ys) (all_same f xs h.1)

-- a filter that each passes
pub all_pass : {A : Type 0} (test : A → Bool) (xs : List A) → AllByRecursion (λ x. test x ≡ true) xs → filter test xs ≡ xs
all_pass test [] h = refl
all_pass test (x ∷ xs) h = rw (h.0) (ap (λ ys. x ∷ ys) (all_pass test xs h.1))

-- a filter that none passes
pub none_pass : {A : Type 0} (test : A → Bool) (xs : List A) → AllByRecursion (λ x. test x ≡ false) xs → filter test xs ≡ []
none_pass test [] h = refl
none_pass test (x ∷ xs) h = rw (h.0) (none_pass test xs h.1)

-- how many pass, where each does or none does
pub all_counted : {A : Type 0} (test : A → Bool) (xs : List A) → AllByRecursion (λ x. test x ≡ true) xs → count_by test xs ≡ length xs
all_counted test xs h = sym (length-filter test xs) ∙ ap length (all_pass test xs h)

-- none is counted where none passes
pub none_counted : {A : Type 0} (test : A → Bool) (xs : List A) → AllByRecursion (λ x. test x ≡ false) xs → count_by test xs ≡ 0
none_counted test xs h = sym (length-filter test xs) ∙ ap length (none_pass test xs h)

-- how many pass a test, of which one has told
pub counted_more : {A : Type 0} (test : A → Bool) (b : Bool) (x : A) (xs : List A) → test x ≡ b → count_by test (x ∷ xs) ≡ cond b 1 0 + count_by test xs
counted_more test b x xs is = sum_by-cons (λ x. cond (test x) 1 0) x xs ∙ ap (λ b. cond b 1 0 + count_by test xs) is

-- two tests that tell the same
pub counted_same : {A : Type 0} (p q : A → Bool) → ((x : A) → p x ≡ q x) → (xs : List A) → count_by p xs ≡ count_by q xs
counted_same p q same xs = sym (length-filter p xs) ∙ ap length (filter_agree p q same xs) ∙ length-filter q xs

-- no more is kept than there is
pub kept_few : {A B : Type 0} (h : A → Option B) (xs : List A) → length (filter_map h xs) ≤ length xs
kept_few h xs = omega (arith, counted h xs, count_by-le-length (λ x. is_some (h x)) xs)
