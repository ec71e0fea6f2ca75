-- What a set of numbers holds.
use Rattle.std.specs.Prelude.{◌≡◌, ℕ, List}
use Rattle.std.specs.Ordering.{nat_cmp}
use Rattle.std.specs.BTreeSet.{BTreeSet, contains}
use Rattle.glue_shared.specs.Names.{has_number}

-- the set holds exactly the numbers of the list
abbrev pub Holds : BTreeSet ℕ → List ℕ → Type 0
Holds set numbers = (number : ℕ) → contains nat_cmp set number ≡ has_number number numbers
