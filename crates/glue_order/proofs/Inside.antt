-- Entries with the levels inside them sorted, one after another.
use Rattle.std.proofs.Common.{List, [], ◌++◌, ◌∷◌, ℕ}
use Rattle.glue_order.specs.declared.entry.ExportEntry.{ExportEntry}
use Rattle.glue_order.specs.Order.{AreSortedInside, Entry, IsSortedInside, more, none}

-- one more entry at the end
pub inside_push : {before inner : List Entry} (name : List ℕ) (given sorted : ExportEntry) → IsSortedInside given sorted → AreSortedInside before inner
    → AreSortedInside (before ++ (name, given) ∷ []) (inner ++ (name, sorted) ∷ [])
inside_push name given sorted own none = more name given sorted [] [] own none
inside_push name given sorted own (more n g s before inner first rest) =
    more n g s (before ++ (name, given) ∷ []) (inner ++ (name, sorted) ∷ []) first (inside_push name given sorted own rest)
