-- What LLVM appends is sought from the front on.
use Rattle.std.proofs.Common.{◌≡◌, ◌<◌, ℕ, zero, suc, ◌+◌, List, [], ◌∷◌, ◌++◌, true, false, length, take, drop, refl, ap, subst, arith}
use Rattle.demangle_core.specs.Symbol.{is_llvm_suffix, without_llvm}

-- nothing is left of it
pub none_left : (bytes : List ℕ) → is_llvm_suffix bytes ≡ true → without_llvm bytes ≡ []
none_left [] h = refl
none_left (b ∷ bytes) h = rw h refl

one_more : (name : List ℕ) (place : ℕ) → place < length name → is_llvm_suffix (drop place name) ≡ false
    → take (suc place) name ++ without_llvm (drop (suc place) name) ≡ take place name ++ without_llvm (drop place name)
one_more [] place less h = absurd (omega (arith, less))
one_more (b ∷ name) zero less h = rw h refl
one_more (b ∷ name) (suc place) less h = ap (λ (rest : List ℕ). b ∷ rest) (one_more name place (omega (arith, less)) h)

-- where it doesn't begin, a byte stays
pub one_stays : (name : List ℕ) (place : ℕ) → place < length name → is_llvm_suffix (drop place name) ≡ false
    → take (place + 1) name ++ without_llvm (drop (place + 1) name) ≡ take place name ++ without_llvm (drop place name)
one_stays name place less h =
    let e : suc place ≡ place + 1 = omega arith in
    subst (λ (n : ℕ). take n name ++ without_llvm (drop n name) ≡ take place name ++ without_llvm (drop place name)) e (one_more name place less h)
