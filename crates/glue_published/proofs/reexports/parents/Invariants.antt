use Rattle.std.proofs.Common.{◌≡◌, ℕ, List, drop}
use Rattle.std.specs.Prelude.{◌||◌}
use Rattle.glue_published.specs.Reexports.{has_members}
use Rattle.glue_published.specs.Sets.{holds}
use Rattle.glue_published.proofs.reexports.parents.Given as goal

-- a name is in the set or still to be added exactly where it has members
abbrev pub invariant-loop-thing : goal.invariant-loop-thing
invariant-loop-thing l = (name : List ℕ) → (holds l.set name || has_members (drop l.thing-index l.things) name) ≡ has_members l.things name
