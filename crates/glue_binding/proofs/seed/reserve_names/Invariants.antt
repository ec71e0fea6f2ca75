use Rattle.std.proofs.Common.{◌≡◌, take}
use Rattle.values.specs.TextSet.{with_texts}
use Rattle.glue_binding.proofs.seed.reserve_names.Given as goal

abbrev pub invariant-loop-name : goal.invariant-loop-name
invariant-loop-name g l = g.N.Names.bound l.scope ≡ with_texts (g.N.Names.bound l.initial.scope) (take l.name-index l.names)
