use Rattle.std.proofs.Common.{◌≡◌, ◌++◌, map, take}
use Rattle.std.specs.List.{flat_map}
use Rattle.glue_naming.specs.Wanted.{function_names}
use Rattle.glue_naming.proofs.asked.push_functions.Given as goal

abbrev pub invariant-loop-export : goal.invariant-loop-export
invariant-loop-export l = l.list ≡ l.initial.list ++ flat_map function_names (map (λ e. e.now) (take l.export-index l.exports))
