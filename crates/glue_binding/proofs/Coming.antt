-- Names that are taken from those to come.
use Rattle.std.proofs.Common.{◌≡◌, ℕ, zero, suc, ◌+◌, ◌-◌, ◌<◌, ◌≤◌, List, [], ◌∷◌, ◌++◌, length, length-append, refl, ap, arith, append_assoc}
use Rattle.glue_steps.specs.Stack.{without}
use Rattle.glue_binding.specs.Spelling.{first, later, next_names}
use Rattle.glue_operands.proofs.Each.{Each}

-- as many are taken as are asked for
pub next_count : (n : ℕ) (names : List (List ℕ)) → length (next_names n names) ≡ n
next_count zero names = refl
next_count (suc n) names = ap suc (next_count n (later names))

-- those that are taken and those that are left are all
pub next_rest : (n : ℕ) (names : List (List ℕ)) → n ≤ length names → next_names n names ++ without n names ≡ names
next_rest zero names le = refl
next_rest (suc n) [] le = absurd (omega (arith, le))
next_rest (suc n) (x ∷ names) le = ap (λ (ns : List (List ℕ)). x ∷ ns) (next_rest n names (omega (arith, le)))

-- where there are enough for two lists, there are for the first, and for the second when the first are taken
pub first_enough : (xs rest names : List (List ℕ)) → length (xs ++ rest) ≤ length names → length xs ≤ length names
first_enough xs rest names le = let both = length-append xs rest in omega (arith, le, both)

pub left_enough : (xs rest names : List (List ℕ)) → length (xs ++ rest) ≤ length names → length rest ≤ length (without (length xs) names)
left_enough [] rest names le = le
left_enough (x ∷ xs) rest [] le = absurd (omega (arith, le))
left_enough (x ∷ xs) rest (n ∷ names) le = left_enough xs rest names (omega (arith, le))

-- and where there are exactly as many, exactly as many are left
pub left_exact : (xs rest names : List (List ℕ)) → length (xs ++ rest) ≡ length names → length rest ≡ length (without (length xs) names)
left_exact [] rest names e = e
left_exact (x ∷ xs) rest [] e = absurd (omega (arith, e))
left_exact (x ∷ xs) rest (n ∷ names) e = left_exact xs rest names (omega (arith, e))

module _ (N : List ℕ → Type 0) where
  pub next_each : (n : ℕ) (names : List (List ℕ)) → n ≤ length names → Each N names → Each N (next_names n names)
  next_each zero names le h = tt
  next_each (suc n) [] le h = absurd (omega (arith, le))
  next_each (suc n) (x ∷ names) le h = (h.0, next_each n names (omega (arith, le)) h.1)

  pub left_each : (n : ℕ) (names : List (List ℕ)) → Each N names → Each N (without n names)
  left_each zero names h = h
  left_each (suc n) [] h = left_each n [] tt
  left_each (suc n) (x ∷ names) h = left_each n names h.1

-- one more is taken in a loop
pub next_taken : (k n : ℕ) (names names' coming coming' : List (List ℕ)) (x : List ℕ) → k < n → coming' ≡ later coming → x ≡ first coming
    → names' ≡ names ++ x ∷ [] → names' ++ next_names (n - (k + 1)) coming' ≡ names ++ next_names (n - k) coming
next_taken k n names names' coming coming' x h c e t =
    let left : n - k ≡ suc (n - (k + 1)) = omega arith in
    rw (left, c, t, e) (append_assoc names (first coming ∷ []) (next_names (n - (k + 1)) (later coming)))
