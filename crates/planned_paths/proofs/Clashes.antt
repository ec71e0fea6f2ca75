-- A path clashes with one of many: by a set of those, and a set of their heads.
use Rattle.std.proofs.Common.{◌≡◌, ℕ, List, [], ◌∷◌, Bool, true, false, ◌||◌, refl, ap, sym, ◌∙◌}
use Rattle.std.specs.List.{list_any, flat_map}
use Rattle.std.specs.Str.{bytes_eq}
use Rattle.std.specs.Cmp.Lexicographic.{nat_list_eq_equiv}
use Rattle.std.proofs.lemmas.List.Folds.{list_any-append}
use Rattle.planned_paths.specs.Paths.{heads, covers, do_clash}

mixed : (a b c d : Bool) → ((a || b) || (c || d)) ≡ ((a || c) || (b || d))
mixed true b c d = refl
mixed false true true d = refl
mixed false true false d = refl
mixed false false c d = refl

module _ {A : Type 0} where
  -- one of two tests
  any_or : (p q : A → Bool) (xs : List A) → list_any (λ x. p x || q x) xs ≡ (list_any p xs || list_any q xs)
  any_or p q [] = refl
  any_or p q (x ∷ xs) = ap (λ b. (p x || q x) || b) (any_or p q xs) ∙ mixed (p x) (q x) (list_any p xs) (list_any q xs)

  any_same : (p q : A → Bool) → ((x : A) → p x ≡ q x) → (xs : List A) → list_any p xs ≡ list_any q xs
  any_same p q same [] = refl
  any_same p q same (x ∷ xs) = ap (λ b. b || list_any p xs) (same x) ∙ ap (λ b. q x || b) (any_same p q same xs)

  any_none : (xs : List A) → list_any (λ _. false) xs ≡ false
  any_none [] = refl
  any_none (x ∷ xs) = any_none xs

module _ {A B : Type 0} where
  any_flat : (p : B → Bool) (f : A → List B) (xs : List A) → list_any p (flat_map f xs) ≡ list_any (λ x. list_any p (f x)) xs
  any_flat p f [] = refl
  any_flat p f (x ∷ xs) = list_any-append p (f x) (flat_map f xs) ∙ ap (λ b. list_any p (f x) || b) (any_flat p f xs)

  swapped : (r : A → B → Bool) (xs : List A) (ys : List B) → list_any (λ x. list_any (r x) ys) xs ≡ list_any (λ y. list_any (λ x. r x y) xs) ys
  swapped r [] ys = sym (any_none ys)
  swapped r (x ∷ xs) ys =
      ap (λ b. list_any (r x) ys || b) (swapped r xs ys) ∙ sym (any_or (r x) (λ y. list_any (λ x. r x y) xs) ys)

-- the path is a head of one of them, or one of them is a head of the path
pub clash_by_sets : (path : List ℕ) (before : List (List ℕ)) → list_any (do_clash path) before
    ≡ (list_any (λ other. bytes_eq other path) (flat_map heads before) || list_any (λ head. list_any (λ other. bytes_eq other head) before) (heads path))
clash_by_sets path before =
    let both : list_any (do_clash path) before ≡ (list_any (λ other. covers path other) before || list_any (λ other. covers other path) before) =
    any_or (λ other. covers path other) (λ other. covers other path) before in
    let first : list_any (λ other. covers path other) before ≡ list_any (λ head. bytes_eq head path) (flat_map heads before) =
    sym (any_flat (λ head. bytes_eq head path) heads before) in
    let second : list_any (λ other. covers other path) before ≡ list_any (λ head. list_any (λ other. bytes_eq other head) before) (heads path) =
    swapped (λ other head. bytes_eq head other) before (heads path)
    ∙ any_same (λ head. list_any (λ other. bytes_eq head other) before) (λ head. list_any (λ other. bytes_eq other head) before)
    (λ head. any_same (λ other. bytes_eq head other) (λ other. bytes_eq other head) (λ other. nat_list_eq_equiv.symm head other) before) (heads path) in
    both ∙ ap (λ b. b || list_any (λ other. covers other path) before) first ∙ ap (λ b. list_any (λ head. bytes_eq head path) (flat_map heads before) || b) second

pub clash_is : (path : List ℕ) (before all own : List (List ℕ)) (a b : Bool) → own ≡ heads path → all ≡ flat_map heads before → a ≡ list_any (λ other. bytes_eq other path) all
    → b ≡ list_any (λ head. list_any (λ other. bytes_eq other head) before) own → (a || b) ≡ list_any (do_clash path) before
clash_is path before all own a b is are first second =
    ap (λ x. x || b) (first ∙ ap (list_any (λ other. bytes_eq other path)) are)
    ∙ ap (λ x. list_any (λ other. bytes_eq other path) (flat_map heads before) || x) (second ∙ ap (list_any (λ head. list_any (λ other. bytes_eq other head) before)) is)
    ∙ sym (clash_by_sets path before)
