-- One more byte of a signed number that is written.
use Rattle.std.proofs.Common.{◌≡◌, ℕ, zero, suc, ◌+◌, ◌-◌, ◌<◌, true, false, [], ◌∷◌, refl, arith, inl, inr}
use Rattle.std.specs.Prelude.{ℤ, pos, ◌⊎◌}
use Rattle.std.specs.Int.{int_div_euclid}
use Rattle.wasm_bytes.specs.Signed.{low_bits, is_digit, shortest_signed}

pub shortest_signed-more : (more : ℕ) (z : ℤ) → 0 < more → is_digit z ≡ false → shortest_signed more z ≡ (low_bits z + 128) ∷ shortest_signed (more - 1) (int_div_euclid z (pos 128))
unfolding shortest_signed
shortest_signed-more zero z lt big = absurd (omega arith)
shortest_signed-more (suc more) z lt big =
    let k : suc more - 1 ≡ more = omega arith in
    rw (big, k) refl

pub shortest_signed-last : (more : ℕ) (z : ℤ) → (more ≡ 0) ⊎ (is_digit z ≡ true) → shortest_signed more z ≡ low_bits z ∷ []
unfolding shortest_signed
shortest_signed-last zero z h = refl
shortest_signed-last (suc more) z (inl e) = absurd (omega (arith, e))
shortest_signed-last (suc more) z (inr digit) = rw digit refl
