use Rattle.std.proofs.Common.{◌≡◌, ◌++◌, take}
use Rattle.std.specs.List.{flat_map}
use Rattle.printed_adapters.specs.Printed.{enum_named, pair_code}
use Rattle.printed_adapters.proofs.enums.with_pairs.Given as goal

abbrev pub invariant-loop-pair : goal.invariant-loop-pair
invariant-loop-pair l = l.more ≡ l.fn.names ++ flat_map enum_named (flat_map (pair_code l.own l.lowered) (take l.pair-index l.pairs))
