-- Counts of texts.
use Rattle.std.specs.Prelude.{◌≡◌, ℕ, List}
use Rattle.std.specs.Option.{unwrap_or}
use Rattle.std.specs.Ordering.{nat_cmp}
use Rattle.std.specs.Cmp.Lexicographic.{slice_cmp}
use Rattle.values.specs.Map.{look_up}
use Rattle.func_names.specs.Numbered.{times}

-- the map tells of each text how often it stands in the list
abbrev pub AreCounted : List (List ℕ × ℕ) → List (List ℕ) → Type 0
AreCounted counts texts = (text : List ℕ) → unwrap_or (look_up (slice_cmp nat_cmp) counts text) 0 ≡ times text texts
