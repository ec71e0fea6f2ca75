use Rattle.std.proofs.Common.{◌≡◌, ℕ, List, drop}
use Rattle.std.specs.Prelude.{◌||◌}
use Rattle.std.specs.List.{list_any}
use Rattle.std.specs.Str.{bytes_eq}
use Rattle.glue_published.specs.Sets.{holds}
use Rattle.glue_published.proofs.roots.reexported_names.Given as goal

-- what is in the set, with what is still to be, is one of the names
abbrev pub invariant-loop-reexport : goal.invariant-loop-reexport
invariant-loop-reexport l = (name : List ℕ) →
    (holds l.set name || list_any (λ r. bytes_eq r.0 name) (drop l.reexport-index l.reexports)) ≡ list_any (λ r. bytes_eq r.0 name) l.reexports
