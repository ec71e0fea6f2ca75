use Rattle.std.proofs.Common.{◌≡◌, take, map}
use Rattle.printed_adapters.proofs.own.paired_places.Given as goal

abbrev pub invariant-loop-pair : goal.invariant-loop-pair
invariant-loop-pair l = l.places ≡ map (λ pair. pair.0.0) (take l.pair-index l.wit.implements)
