use Rattle.std.proofs.Common.{◌≡◌, drop, take, map, []}
use Rattle.glue_faults.specs.First.{first_after}
use Rattle.glue_adapters.specs.Pairs.{is_bad_export}
use Rattle.glue_adapters.proofs.exports.bad_export.Given as goal

abbrev pub invariant-loop-export : goal.invariant-loop-export
invariant-loop-export l = record {
  told : l.ids ≡ map (λ e. e.adapter) (take l.export-index l.export-items);
  same : first_after (is_bad_export l.lowered l.pairs l.callbacks) (take l.export-index l.export-items) (drop l.export-index l.export-items) ≡ first_after (is_bad_export l.lowered l.pairs l.callbacks) [] l.export-items;
}
