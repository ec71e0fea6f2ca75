-- What follows where no answer is found.
use Rattle.std.proofs.Common.{◌≡◌, List, [], ◌∷◌, Bool, true, false, cond, ◌||◌, Option, Some, None, refl, ap, ◌∙◌, inl, inr}
use Rattle.std.specs.Prelude.{option_map}
use Rattle.std.specs.List.{find, list_any}
use Rattle.std.specs.Option.{option_or}
use Rattle.values.specs.Lists.{IsIn}
use Rattle.glue_faults.specs.First.{first_of, first_some, where_true}

none_here : {B : Type 0} (o later : Option B) → option_or o later ≡ None → o ≡ None
none_here None later h = refl
none_here (Some b) later h = cc

none_later : {B : Type 0} (o later : Option B) → option_or o later ≡ None → later ≡ None
none_later None later h = h
none_later (Some b) later h = cc

-- where no answer is found, each item of the list gives none
pub first_of-none : {A B : Type 0} (f : A → Option B) (xs : List A) (x : A) → first_of f xs ≡ None → IsIn x xs → f x ≡ None
first_of-none f [] x h i = absurd i
first_of-none f (y ∷ xs) x h i =
    elim i [ inl e ↦ ap f e ∙ none_here (f y) (first_of f xs) h | inr later ↦ first_of-none f xs x (none_later (f y) (first_of f xs) h) later ]

pub where_true-none : {A : Type 0} (b : Bool) (x : A) → where_true b x ≡ None → b ≡ false
where_true-none true x h = cc
where_true-none false x h = refl

pub option_map-none : {A B : Type 0} (f : A → B) (o : Option A) → option_map f o ≡ None → o ≡ None
option_map-none f None h = refl
option_map-none f (Some x) h = cc

pub not_here : {A : Type 0} (b : Bool) (x : A) (later : Option A) → cond b (Some x) later ≡ None → (b ≡ false) × (later ≡ None)
not_here true x later h = cc
not_here false x later h = (refl, h)

-- what isn't found doesn't stand there
pub find-none : {A : Type 0} (p : A → Bool) (xs : List A) (x : A) → find p xs ≡ None → IsIn x xs → p x ≡ false
find-none p [] x h i = absurd i
find-none p (y ∷ xs) x h i =
    let n = not_here (p y) y (find p xs) h in
    elim i [ inl e ↦ ap p e ∙ n.0 | inr later ↦ find-none p xs x n.1 later ]

pub neither : (a b : Bool) → (a || b) ≡ false → (a ≡ false) × (b ≡ false)
neither true b h = cc
neither false b h = (refl, h)

-- where none passes, none of these does
pub list_any-none : {A : Type 0} (p : A → Bool) (xs : List A) (x : A) → list_any p xs ≡ false → IsIn x xs → p x ≡ false
list_any-none p [] x h i = absurd i
list_any-none p (y ∷ xs) x h i =
    let n = neither (p y) (list_any p xs) h in
    elim i [ inl e ↦ ap p e ∙ n.0 | inr later ↦ list_any-none p xs x n.1 later ]

-- where none of a list of answers is one, each of them is none
pub some-none : {A : Type 0} (answers : List (Option A)) (answer : Option A) → first_some answers ≡ None → IsIn answer answers → answer ≡ None
some-none answers answer h i = first_of-none (λ o. o) answers answer h i
