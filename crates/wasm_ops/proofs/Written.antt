-- What loops write that append what a function gives for each item.
use Rattle.std.proofs.Common.{◌≡◌, ℕ, ◌+◌, ◌<◌, ◌≤◌, List, [], ◌∷◌, ◌++◌, length, take, get_or, ap, sym, subst, append_assoc, append-nil, ◌∙◌}
use Rattle.std.specs.List.{flat_map, AllByRecursion}
use Rattle.std.proofs.lemmas.List.{take_more, take_all, flat_map_more}

pub written : {A : Type 0} (f : A → List ℕ) (xs : List A) (i : ℕ) (x d : A) (before old new : List ℕ) → i < length xs → x ≡ get_or xs i d → new ≡ old ++ f x → old ≡ before ++ flat_map f (take i xs) → new ≡ before ++ flat_map f (take (i + 1) xs)
written f xs i x d before old new lt is one so_far =
    let next : take (i + 1) xs ≡ take i xs ++ x ∷ [] = take_more xs i d lt ∙ ap (λ y. take i xs ++ y ∷ []) (sym is) in
    rw (one, so_far, next) (flat_map_more f before (take i xs) x)

pub all_written : {A : Type 0} (f : A → List ℕ) (xs : List A) (i : ℕ) (before new : List ℕ) → length xs ≤ i → new ≡ before ++ flat_map f (take i xs) → new ≡ before ++ flat_map f xs
all_written f xs i before new le so_far = so_far ∙ ap (λ l. before ++ flat_map f l) (take_all i xs le)

pub all_any : {A : Type 0} (xs : List A) → AllByRecursion (λ _. Unit {0}) xs
all_any [] = tt
all_any (x ∷ xs) = (tt, all_any xs)

pub all_more : {A : Type 0} (P : A → Type 0) (xs : List A) (x : A) → AllByRecursion P xs → P x → AllByRecursion P (xs ++ x ∷ [])
all_more P [] x all h = (h, tt)
all_more P (y ∷ ys) x all h = (all.0, all_more P ys x all.1 h)

-- what holds of the items so far holds of one more, and in the end of all
pub all_so_far : {A : Type 0} (P : A → Type 0) (xs : List A) (i : ℕ) (x d : A) → i < length xs → x ≡ get_or xs i d → P x → AllByRecursion P (take i xs) → AllByRecursion P (take (i + 1) xs)
all_so_far P xs i x d lt is h so_far = rw (take_more xs i d lt, ← is) (all_more P (take i xs) x so_far h)

pub all_at_last : {A : Type 0} (P : A → Type 0) (xs : List A) (i : ℕ) → length xs ≤ i → AllByRecursion P (take i xs) → AllByRecursion P xs
all_at_last P xs i le so_far = subst (λ ys. AllByRecursion P ys) (take_all i xs le) so_far

-- A walk over what is left: what is written, and what the rest comes to, stay the whole.
pub walked_more : {A B : Type 0} (f : A → List B) (x : A) (from to : List A) (before old new whole : List B) → from ≡ x ∷ to → new ≡ old ++ f x → old ++ flat_map f from ≡ before ++ whole → new ++ flat_map f to ≡ before ++ whole
walked_more f x from to before old new whole next one so_far = ap (λ l. l ++ flat_map f to) one ∙ append_assoc old (f x) (flat_map f to) ∙ ap (λ l. old ++ flat_map f l) (sym next) ∙ so_far

pub walked_all : {A B : Type 0} (f : A → List B) (from : List A) (before new whole : List B) → from ≡ [] → new ++ flat_map f from ≡ before ++ whole → new ≡ before ++ whole
walked_all f from before new whole none so_far = sym (append-nil new) ∙ ap (λ l. new ++ flat_map f l) (sym none) ∙ so_far
