-- Membership and distinctness, by recursion over a list.
use Rattle.std.specs.Prelude.{◌≡◌, ◌⊎◌, List, [], ◌∷◌}

-- x is one of these
abbrev pub IsIn : {A : Type 0} → A → List A → Type 0
IsIn x [] = ⊥
IsIn x (y ∷ ys) = (x ≡ y) ⊎ IsIn x ys

-- x is none of these
abbrev pub IsAway : {A : Type 0} → A → List A → Type 0
IsAway x ys = IsIn x ys → ⊥

-- no item stands twice
abbrev pub AreDistinct : {A : Type 0} → List A → Type 0
AreDistinct [] = Unit {0}
AreDistinct (x ∷ xs) = IsAway x xs × AreDistinct xs

-- no item of the first is one of the second
abbrev pub AreApart : {A : Type 0} → List A → List A → Type 0
AreApart [] ys = Unit {0}
AreApart (x ∷ xs) ys = IsAway x ys × AreApart xs ys
