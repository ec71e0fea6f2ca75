use Rattle.std.proofs.Common.{◌≡◌, ◌++◌, map, take}
use Rattle.glue_naming.specs.Wanted.{root_wanted}
use Rattle.glue_naming.proofs.asked.push_roots.Given as goal

abbrev pub invariant-loop-root : goal.invariant-loop-root
invariant-loop-root l = l.list ≡ l.initial.list ++ map root_wanted (take l.root-index l.roots)
