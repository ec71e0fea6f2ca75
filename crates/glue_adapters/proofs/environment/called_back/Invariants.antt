use Rattle.std.proofs.Common.{◌≡◌, take, map}
use Rattle.glue_adapters.proofs.environment.called_back.Given as goal

abbrev pub invariant-loop-pair : goal.invariant-loop-pair
invariant-loop-pair l = l.ids ≡ map (λ pair. pair.1) (take l.pair-index l.pairs)
