-- Lists of texts in order of bytes.
use Rattle.std.specs.Prelude.{ℕ, List}
use Rattle.std.specs.List.Sorted.{IsStrictlySortedBy}
use Rattle.std.specs.Ordering.{nat_cmp}
use Rattle.std.specs.Cmp.Lexicographic.{slice_cmp}
use Rattle.values.specs.Lists.{IsIn}

-- the texts of a list, in order of bytes and each once
pub record IsSortedSet (texts sorted : List (List ℕ)) : Type 0 where
  -- each is below those after it
  pub rises : IsStrictlySortedBy (slice_cmp nat_cmp) sorted
  -- no others
  pub only : (text : List ℕ) → IsIn text sorted → IsIn text texts
  -- and all of them
  pub all : (text : List ℕ) → IsIn text texts → IsIn text sorted
