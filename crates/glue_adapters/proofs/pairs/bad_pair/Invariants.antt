use Rattle.std.proofs.Common.{◌≡◌, drop, take, map, []}
use Rattle.glue_faults.specs.First.{first_after}
use Rattle.glue_adapters.specs.Pairs.{is_bad_pair}
use Rattle.glue_adapters.proofs.pairs.bad_pair.Given as goal

abbrev pub invariant-loop-pair : goal.invariant-loop-pair
invariant-loop-pair l = record {
  places : l.imports ≡ map (λ p. p.0.0) (take l.pair-index l.pair-items);
  ids : l.adapters ≡ map (λ p. p.1) (take l.pair-index l.pair-items);
  same : first_after (is_bad_pair l.lowered l.environment l.entries) (take l.pair-index l.pair-items) (drop l.pair-index l.pair-items) ≡ first_after (is_bad_pair l.lowered l.environment l.entries) [] l.pair-items;
}
