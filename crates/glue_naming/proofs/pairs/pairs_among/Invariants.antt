use Rattle.std.proofs.Common.{◌≡◌, take}
use Rattle.std.specs.Prelude.{filter}
use Rattle.glue_naming.specs.Pairs.{is_among}
use Rattle.glue_naming.proofs.pairs.pairs_among.Given as goal

abbrev pub invariant-loop-pair : goal.invariant-loop-pair
invariant-loop-pair l = l.among.items ≡ filter (is_among l.own) (take l.pair-index l.pairs)
