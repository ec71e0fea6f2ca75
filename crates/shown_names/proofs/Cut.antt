-- Whether a text has so many characters.
use Rattle.std.proofs.Common.{◌≡◌, ℕ, refl}
use Rattle.std.specs.Prelude.{Option, Some, None, option_map, is_some}

pub is_some_mapped : (o : Option ℕ) → is_some (option_map (λ x. x) o) ≡ is_some o
is_some_mapped None = refl
is_some_mapped (Some x) = refl
