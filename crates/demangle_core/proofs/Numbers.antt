-- A number doesn't become smaller by digits behind it.
use Rattle.std.proofs.Common.{◌≤◌, ◌<◌, ℕ, List, [], ◌∷◌, arith}
use Rattle.std.specs.List.{fold}
use Rattle.std.proofs.Math.Nat.{le-mul_of_pos_right}
use Rattle.demangle_core.specs.Reading.{digit_added}

module _ (base : ℕ) (positive : 1 ≤ base) where
  one_more : (n b : ℕ) → n ≤ digit_added base n b
  one_more n b =
      let positive : 0 < base = omega (arith, positive) in
      let e = le-mul_of_pos_right n positive in omega (arith, e)

  pub grows : (n : ℕ) (digits : List ℕ) → n ≤ fold (digit_added base) n digits
  grows n [] = omega arith
  grows n (d ∷ digits) = let first = one_more n d in let rest = grows (digit_added base n d) digits in omega (arith, first, rest)
