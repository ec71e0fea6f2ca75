use Rattle.std.proofs.Common.{◌≡◌, map, take}
use Rattle.glue_inputs.proofs.texts.Given as goal

abbrev pub invariant-loop-name : goal.invariant-loop-name
invariant-loop-name l = l.seq ≡ map (λ name. name.now) (take l.name-index l.names)
