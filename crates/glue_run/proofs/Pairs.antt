-- Lists of two.
use Rattle.std.proofs.Common.{◌≡◌, List, [], ◌∷◌, length, get_or, ap, sym, ◌∙◌, arith}

-- a list of two is its first and its second item
pub pair_of : {X : Type 0} (xs : List X) (a b : X) → length xs ≡ 2 → a ≡ get_or xs 0 a → b ≡ get_or xs 1 b → xs ≡ a ∷ b ∷ []
pair_of [] a b two first second = absurd (omega (arith, two))
pair_of (x ∷ []) a b two first second = absurd (omega (arith, two))
pair_of (x ∷ y ∷ []) a b two first second = ap (λ v. v ∷ y ∷ []) (sym first) ∙ ap (λ v. a ∷ v ∷ []) (sym second)
pair_of (x ∷ y ∷ z ∷ zs) a b two first second = absurd (omega (arith, two))
