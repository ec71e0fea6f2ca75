use Rattle.std.proofs.Common.{◌≡◌, ℕ, take}
use Rattle.std.specs.Prelude.{is_some}
use Rattle.std.specs.List.{list_any}
use Rattle.values.specs.Map.{look_up}
use Rattle.wasm_core.specs.ids.ExportId.{ExportId}
use Rattle.glue_names.specs.Once.{each_pair, is_same_pair, number_pair_order}
use Rattle.glue_names.proofs.closures.each_pair.Given as goal

abbrev pub invariant-loop-pair : goal.invariant-loop-pair
invariant-loop-pair l = record {
  once : l.once ≡ each_pair (take l.pair-index l.pairs);
  seen : (q : ExportId × ℕ) → is_some (look_up number_pair_order l.seen (q.0.0, q.1)) ≡ list_any (is_same_pair q) (take l.pair-index l.pairs);
}
