-- Passing sections one by one, as a loop does.
use Rattle.std.proofs.Common.{◌≡◌, ℕ, suc, zero, ◌-◌, ◌+◌, ◌≤◌, ◌<◌, List, true, false, drop, refl, arith}
use Rattle.fault_words.specs.Sections.{around, ended_at, is_there, size_of}

-- none is left to be passed
pub around_out : (n i left : ℕ) (before rest : List ℕ) → n ≤ i → around (n - i) left before rest ≡ (before, rest)
unfolding around
around_out n i left before rest le = let k : n - i ≡ 0 = omega arith in rw k refl

-- the place lies in the section, or there is none
pub around_stops : (n left : ℕ) (before rest : List ℕ) → is_there left rest ≡ true → around n left before rest ≡ (before, rest)
unfolding around
around_stops zero left before rest h = refl
around_stops (suc n) left before rest h = rw h refl

-- a section is passed
pub around_goes_on : (n i left : ℕ) (before rest : List ℕ) → i < n → is_there left rest ≡ false
    → around (n - i) left before rest ≡ around (n - (i + 1)) (left - size_of rest) (ended_at left rest) (drop (size_of rest) rest)
unfolding around
around_goes_on n i left before rest lt h = let k : n - i ≡ suc (n - (i + 1)) = omega arith in rw (k, h) refl
