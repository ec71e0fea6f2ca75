-- The first and the last byte of a list.
use Rattle.std.proofs.Common.{◌≡◌, ℕ, suc, ◌-◌, List, [], ◌∷◌, length, refl, ap, ◌∙◌, arith}
use Rattle.std.specs.Prelude.{Some, slice_get, ◌==◌, nat_eq}
use Rattle.std.specs.Option.{option_eq}
use Rattle.glue_words.specs.Limits.{first_passes, last_passes}

pub first_is : (bs : List ℕ) (b : ℕ) → option_eq nat_eq (slice_get bs 0) (Some b) ≡ first_passes (λ x. x == b) bs
first_is [] b = refl
first_is (x ∷ bs) b = refl

pub last_is : (bs : List ℕ) (b : ℕ)
    → option_eq nat_eq (slice_get bs (length bs - 1)) (Some b) ≡ last_passes (λ x. x == b) bs
last_is [] b = refl
last_is (x ∷ []) b = refl
last_is (x ∷ y ∷ bs) b =
    let e : length (x ∷ y ∷ bs) - 1 ≡ suc (length (y ∷ bs) - 1) = omega arith in
    ap (λ i. option_eq nat_eq (slice_get (x ∷ y ∷ bs) i) (Some b)) e ∙ last_is (y ∷ bs) b
