use Rattle.std.proofs.Common.{◌≡◌, ◌++◌, take}
use Rattle.std.specs.List.{flat_map}
use Rattle.glue_names.specs.Given.{closure_export}
use Rattle.glue_names.proofs.closures.push_names.Given as goal

abbrev pub invariant-loop-pair : goal.invariant-loop-pair
invariant-loop-pair l = l.list ≡ l.initial.list ++ flat_map (closure_export l.«module») (take l.pair-index l.pairs)
