use Rattle.std.proofs.Common.{◌≡◌, ◌++◌, take}
use Rattle.std.specs.List.{flat_map}
use Rattle.printed_adapters.specs.Printed.{pair_code}
use Rattle.printed_adapters.proofs.Making.{made_places}
use Rattle.printed_adapters.proofs.closures.push_pairs.Given as goal

abbrev pub invariant-loop-pair : goal.invariant-loop-pair
invariant-loop-pair l = l.out.items ≡ l.initial.out.items ++ made_places l.places (flat_map (pair_code l.own l.lowered) (take l.pair-index l.pairs))
