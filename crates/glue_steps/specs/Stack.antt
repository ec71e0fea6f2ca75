-- Stacks of operands, the newest first. Where a stack lacks an operand, a default stands for it.
use Rattle.std.specs.Prelude.{ℕ, zero, suc, List, [], ◌∷◌}

-- the newest operand
abbrev pub top : {A : Type 0} → A → List A → A
top default [] = default
top default (x ∷ stack) = x

-- the others
abbrev pub below : {A : Type 0} → List A → List A
below [] = []
below (x ∷ stack) = stack

-- the item at a place
abbrev pub item_at : {A : Type 0} → A → List A → ℕ → A
item_at default [] n = default
item_at default (x ∷ xs) zero = x
item_at default (x ∷ xs) (suc n) = item_at default xs n

-- the n newest, the oldest of them first, in front of those that are taken
abbrev pub operands : {A : Type 0} → A → ℕ → List A → List A → List A
operands default zero stack taken = taken
operands default (suc n) stack taken = operands default n (below stack) (top default stack ∷ taken)

-- the stack without its n newest
abbrev pub without : {A : Type 0} → ℕ → List A → List A
without zero stack = stack
without (suc n) stack = without n (below stack)

-- the last item of a list
abbrev pub last_of : {A : Type 0} → A → List A → A
last_of default [] = default
last_of default (x ∷ xs) = last_of x xs
