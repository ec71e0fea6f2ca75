-- Tests of lists, joined and nested.
use Rattle.std.proofs.Common.{◌≡◌, List, [], ◌∷◌, ◌++◌, refl, sym, ap, ◌∙◌, cond, Bool, true, false}
use Rattle.std.specs.Prelude.{◌&&◌, ◌||◌, is_some, Option, Some}
use Rattle.std.specs.List.{list_any}

or_mixed : (a b c d : Bool) → ((a || b) || (c || d)) ≡ ((a || c) || (b || d))
or_mixed true b c d = refl
or_mixed false true true d = refl
or_mixed false true false d = refl
or_mixed false false c d = refl

pub or_swapped : (a b : Bool) → (a || b) ≡ (b || a)
or_swapped true true = refl
or_swapped true false = refl
or_swapped false true = refl
or_swapped false false = refl

pub any_both : {A : Type 0} (p q : A → Bool) (xs : List A) → (list_any p xs || list_any q xs) ≡ list_any (λ x. p x || q x) xs
any_both p q [] = refl
any_both p q (x ∷ xs) = or_mixed (p x) (list_any p xs) (q x) (list_any q xs) ∙ ap (λ b. (p x || q x) || b) (any_both p q xs)

any_none : {A : Type 0} (xs : List A) → list_any (λ x. false) xs ≡ false
any_none [] = refl
any_none (x ∷ xs) = any_none xs

pub any_where : {A : Type 0} (b : Bool) (p : A → Bool) (xs : List A) → (b && list_any p xs) ≡ list_any (λ x. b && p x) xs
any_where true p xs = refl
any_where false p xs = sym (any_none xs)

pub any_swapped : {A B : Type 0} (r : A → B → Bool) (xs : List A) (ys : List B) → list_any (λ y. list_any (λ x. r x y) xs) ys ≡ list_any (λ x. list_any (r x) ys) xs
any_swapped r xs [] = sym (any_none xs)
any_swapped r xs (y ∷ ys) =
    ap (λ b. list_any (λ x. r x y) xs || b) (any_swapped r xs ys) ∙ any_both (λ x. r x y) (λ x. list_any (r x) ys) xs

pub any_behind : {A : Type 0} (p : A → Bool) (xs : List A) (x : A) → list_any p (xs ++ x ∷ []) ≡ (p x || list_any p xs)
any_behind p [] x = refl
any_behind p (y ∷ xs) x = ap (λ b. p y || b) (any_behind p xs x) ∙ swapped (p y) (p x) (list_any p xs)
  where
    swapped : (a b c : Bool) → (a || (b || c)) ≡ (b || (a || c))
    swapped true true c = refl
    swapped true false c = refl
    swapped false b c = refl

pub some_or : {A : Type 0} (b : Bool) (x : A) (o : Option A) → is_some (cond b (Some x) o) ≡ (b || is_some o)
some_or true x o = refl
some_or false x o = refl
