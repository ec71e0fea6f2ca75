-- Items and keys by number.
use Rattle.std.proofs.Common.{◌≡◌, ℕ, ◌<◌, ◌≤◌, List, [], ◌∷◌, ap, refl, cond, arith, zero, suc, length}
use Rattle.std.specs.Prelude.{slice_index_or}
use Rattle.std.proofs.lemmas.Bool.{lt-ltb, le-ltb}
use Rattle.helper_table.specs.declared.parts.HelperParts.{HelperParts}
use Rattle.helper_table.specs.declared.kinds.TheConstants.{SINGLES}
use Rattle.helper_table.specs.Made.{single_item, family_item, helper_item}
use Rattle.helper_table.specs.Made.{single_at, family_at, family_of, place_of}

-- the item of a helper that goes by no memory and no table
pub single_made : (parts : HelperParts) (i : ℕ) → i < SINGLES → helper_item parts i ≡ single_item parts (single_at i)
unfolding helper_item
single_made parts i lt = ap (λ b. cond b (single_item parts (single_at i)) (family_item parts (family_at (family_of i)) (place_of i))) (lt-ltb i SINGLES lt)

-- and of another
pub family_made : (parts : HelperParts) (i : ℕ) → SINGLES ≤ i
    → helper_item parts i ≡ family_item parts (family_at (family_of i)) (place_of i)
unfolding helper_item
family_made parts i le = ap (λ b. cond b (single_item parts (single_at i)) (family_item parts (family_at (family_of i)) (place_of i))) (le-ltb i SINGLES le)

-- what stands at a place, whatever stands for what is past the end
pub at_place : {A : Type 0} (xs : List A) (i : ℕ) (d e : A) → i < length xs → slice_index_or xs i d ≡ slice_index_or xs i e
at_place [] i d e lt = absurd (omega (arith, lt))
at_place (x ∷ xs) zero d e lt = refl
at_place (x ∷ xs) (suc i) d e lt = at_place xs i d e (omega (arith, lt))
