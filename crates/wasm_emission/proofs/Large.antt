-- Writing sections one after another, up to the first that is too long.
use Rattle.std.proofs.Common.{◌≡◌, ℕ, ◌<◌, ◌≤◌, List, [], ◌∷◌, length, Some, None, refl}
use Rattle.std.proofs.lemmas.Bool.{le-ltb, lt-ltb}
use Rattle.wasm_emission.specs.Emission.{first_too_large}

pub large_here : (longest : ℕ) (s : ℕ × List ℕ) (ss : List (ℕ × List ℕ)) → longest < length s.1 → first_too_large longest (s ∷ ss) ≡ Some s.0
unfolding first_too_large
large_here longest s ss large = rw (lt-ltb _ _ large) refl

pub large_later : (longest : ℕ) (s : ℕ × List ℕ) (ss : List (ℕ × List ℕ)) → length s.1 ≤ longest → first_too_large longest (s ∷ ss) ≡ first_too_large longest ss
unfolding first_too_large
large_later longest s ss small = rw (le-ltb _ _ small) refl

pub large_none : (longest : ℕ) → first_too_large longest [] ≡ None
unfolding first_too_large
large_none longest = refl
