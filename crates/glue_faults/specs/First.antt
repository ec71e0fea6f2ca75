-- The first answer along a list.
use Rattle.std.specs.Prelude.{Bool, true, false, if◌then◌else◌, List, [], ◌∷◌, ◌++◌, Option, Some, None}
use Rattle.std.specs.Option.{option_or}

-- the first answer that f gives along a list
abbrev pub first_of : {A B : Type 0} → (A → Option B) → List A → Option B
first_of f [] = None
first_of f (x ∷ xs) = option_or (f x) (first_of f xs)

-- the answer, where a test holds
abbrev pub where_true : {A : Type 0} → Bool → A → Option A
where_true true x = Some x
where_true false x = None

-- the first of these answers that is one
abbrev pub first_some : {A : Type 0} → List (Option A) → Option A
first_some answers = first_of (λ answer. answer) answers

-- the first entry that passes a test of the entries before it and of itself; `before` are those that were passed
abbrev pub first_after : {A : Type 0} → (List A → A → Bool) → List A → List A → Option A
first_after test before [] = None
first_after test before (x ∷ xs) = if test before x then Some x else first_after test (before ++ x ∷ []) xs
