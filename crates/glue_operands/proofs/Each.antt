-- Items that have a property, in lists and in stacks.
use Rattle.std.proofs.Common.{ℕ, zero, suc, ◌<◌, List, [], ◌∷◌, ◌++◌, length, inl, inr, refl, arith}
use Rattle.values.specs.Lists.{IsIn}
use Rattle.glue_steps.specs.Stack.{top, below, item_at, last_of, operands, without}

-- each item has it
abbrev pub Each : {A : Type 0} → (A → Type 0) → List A → Type 0
Each P [] = Unit {0}
Each P (x ∷ xs) = P x × Each P xs

module _ {A : Type 0} (P : A → Type 0) where
  pub each_both : (xs ys : List A) → Each P xs → Each P ys → Each P (xs ++ ys)
  each_both [] ys h k = k
  each_both (x ∷ xs) ys h k = (h.0, each_both xs ys h.1 k)

  pub each_parts : (xs ys : List A) → Each P (xs ++ ys) → Each P xs × Each P ys
  each_parts [] ys h = (tt, h)
  each_parts (x ∷ xs) ys h = let rest = each_parts xs ys h.1 in ((h.0, rest.0), rest.1)

  pub each_by : (xs : List A) → ((x : A) → IsIn x xs → P x) → Each P xs
  each_by [] h = tt
  each_by (x ∷ xs) h = (h x (inl refl), each_by xs (λ y at. h y (inr at)))

  -- the item at a place that is there
  pub each_there : (default : A) (xs : List A) (n : ℕ) → n < length xs → Each P xs → P (item_at default xs n)
  each_there default [] n lt h = absurd (omega (arith, lt))
  each_there default (x ∷ xs) zero lt h = h.0
  each_there default (x ∷ xs) (suc n) lt h = each_there default xs n (omega (arith, lt)) h.1

  -- where the default has it too, so has what a stack gives
  module _ (default : A) (d : P default) where
    pub each_item : (xs : List A) (n : ℕ) → Each P xs → P (item_at default xs n)
    each_item [] n h = d
    each_item (x ∷ xs) zero h = h.0
    each_item (x ∷ xs) (suc n) h = each_item xs n h.1

    pub each_last : (xs : List A) → Each P xs → P (last_of default xs)
    each_last [] h = d
    each_last (x ∷ xs) h = last_one x xs h.0 h.1
      where
        last_one : (x : A) (xs : List A) → P x → Each P xs → P (last_of x xs)
        last_one x [] k h = k
        last_one x (y ∷ xs) k h = last_one y xs h.0 h.1

    pub each_top : (stack : List A) → Each P stack → P (top default stack)
    each_top [] h = d
    each_top (x ∷ stack) h = h.0

    pub each_below : (stack : List A) → Each P stack → Each P (below stack)
    each_below [] h = tt
    each_below (x ∷ stack) h = h.1

    pub each_without : (n : ℕ) (stack : List A) → Each P stack → Each P (without n stack)
    each_without zero stack h = h
    each_without (suc n) stack h = each_without n (below stack) (each_below stack h)

    pub each_operands : (n : ℕ) (stack taken : List A) → Each P stack → Each P taken
        → Each P (operands default n stack taken)
    each_operands zero stack taken h k = k
    each_operands (suc n) stack taken h k = each_operands n (below stack) (top default stack ∷ taken)
        (each_below stack h) (each_top stack h, k)
