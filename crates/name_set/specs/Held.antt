-- What a set of names holds.
use Rattle.std.specs.Prelude.{◌≡◌, ℕ, List, is_some}
use Rattle.std.specs.List.{list_any}
use Rattle.std.specs.Str.{bytes_eq}
use Rattle.std.specs.Ordering.{nat_cmp}
use Rattle.std.specs.Cmp.Lexicographic.{slice_cmp}
use Rattle.values.specs.Map.{look_up}

-- the map has an entry at exactly the names of the list
abbrev pub AreHeld : {X : Type 0} → List (List ℕ × X) → List (List ℕ) → Type 0
AreHeld entries names = (name : List ℕ) → is_some (look_up (slice_cmp nat_cmp) entries name) ≡ list_any (λ other. bytes_eq other name) names
