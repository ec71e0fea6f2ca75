use Rattle.std.proofs.Common.{◌≡◌, take, map}
use Rattle.glue_adapters.proofs.environment.enum_names.Given as goal

abbrev pub invariant-loop-texts : goal.invariant-loop-texts
invariant-loop-texts l = l.names ≡ map (λ e. e.name) (take l.texts-index l.enums)
