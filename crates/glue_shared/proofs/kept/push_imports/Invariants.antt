use Rattle.std.proofs.Common.{◌≡◌, ◌++◌, take}
use Rattle.std.specs.List.{flat_map}
use Rattle.glue_shared.specs.Roots.{import_items}
use Rattle.glue_shared.proofs.kept.push_imports.Given as goal

abbrev pub invariant-loop-pair : goal.invariant-loop-pair
invariant-loop-pair l = l.out.items ≡ l.fn.out.items ++ flat_map (import_items l.«module») (take l.pair-index l.pairs)
