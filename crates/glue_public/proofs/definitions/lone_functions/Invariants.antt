use Rattle.std.proofs.Common.{◌≡◌, map, take}
use Rattle.glue_public.specs.Described.{lone_functions}
use Rattle.glue_public.proofs.definitions.lone_functions.Given as goal

abbrev pub invariant-loop-export : goal.invariant-loop-export
invariant-loop-export l = map (λ e. e.now) l.lone.items ≡ lone_functions (take l.export-index l.exports)
