-- A set of texts.
use Rattle.std.specs.Prelude.{ℕ, List, [], ◌∷◌}
use Rattle.std.specs.FinSet as set
use Rattle.std.specs.Ordering.{nat_cmp}
use Rattle.std.specs.Cmp.Lexicographic.{slice_cmp}

-- a set of texts, each by its bytes
abbrev pub TextSet : Type 0
TextSet = set.FinSet (slice_cmp nat_cmp)

-- the set with the texts of a list
abbrev pub with_texts : TextSet → List (List ℕ) → TextSet
with_texts texts [] = texts
with_texts texts (text ∷ others) = with_texts (set.insert texts text) others
