-- Sets of names, kept as maps.
use Rattle.std.specs.Prelude.{◌≡◌, ℕ, Bool, is_some, List}
use Rattle.std.specs.Ordering.{nat_cmp}
use Rattle.std.specs.declared.cmp.Ordering.{Ordering}
use Rattle.std.specs.Cmp.Lexicographic.{slice_cmp}
use Rattle.values.specs.Map.{look_up}

-- names by their bytes
abbrev pub name_order : List ℕ → List ℕ → Ordering
name_order = slice_cmp nat_cmp

-- a name is in the set
abbrev pub holds : List (List ℕ × Bool) → List ℕ → Bool
holds set name = is_some (look_up name_order set name)

-- a name is in the set exactly where it passes a test
abbrev pub AreNames : List (List ℕ × Bool) → (List ℕ → Bool) → Type 0
AreNames set test = (name : List ℕ) → holds set name ≡ test name
