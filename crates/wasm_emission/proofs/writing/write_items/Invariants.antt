use Rattle.std.proofs.Common.{◌≡◌, ◌≤◌, ◌++◌, take, count_by, is_some}
use Rattle.std.specs.List.{flat_map}
use Rattle.wasm_emission.specs.Emission.{filed_at, some_bytes}
use Rattle.wasm_emission.proofs.writing.write_items.Given as goal

abbrev pub invariant-loop-item : goal.invariant-loop-item
invariant-loop-item g l = record {
  count : l.count ≡ count_by (λ x. is_some (filed_at (g.L.FileList.filed l.plan.module.now l.plan.numbers.now) x)) (take l.item-index l.items);
  few : l.count ≤ l.item-index;
  bytes : l.out.items ≡ l.fn.out.items ++ flat_map (λ x. some_bytes g.L.FileList.spelled (filed_at (g.L.FileList.filed l.plan.module.now l.plan.numbers.now) x)) (take l.item-index l.items);
}
