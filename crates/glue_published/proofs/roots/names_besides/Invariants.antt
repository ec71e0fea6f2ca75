use Rattle.std.proofs.Common.{◌≡◌, ◌++◌, filter, not}
use Rattle.std.specs.Map.{keys_of}
use Rattle.glue_published.specs.Sets.{holds}
use Rattle.glue_published.proofs.roots.names_besides.Given as goal

-- the names so far and those that are left are all
abbrev pub invariant-loop-name : goal.invariant-loop-name
invariant-loop-name l = l.names ++ filter (λ name. not (holds l.set name)) (keys_of l.name-iterator) ≡ filter (λ name. not (holds l.set name)) (keys_of l.all)
