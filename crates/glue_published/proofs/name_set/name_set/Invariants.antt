use Rattle.std.proofs.Common.{◌≡◌, ℕ, List, drop}
use Rattle.std.specs.Prelude.{◌||◌}
use Rattle.glue_shared.specs.Names.{is_one_of}
use Rattle.glue_published.specs.Sets.{holds}
use Rattle.glue_published.proofs.name_set.name_set.Given as goal

-- what is in the set, with what is still to be, is one of the names
abbrev pub invariant-loop-name : goal.invariant-loop-name
invariant-loop-name l = (name : List ℕ) →
    (holds l.set name || is_one_of (drop l.name-index l.names) name) ≡ is_one_of l.names name
