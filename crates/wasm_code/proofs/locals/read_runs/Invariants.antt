use Rattle.std.proofs.Common.{◌≡◌, ◌+◌, ◌-◌}
use Rattle.std.specs.List.{sum_by}
use Rattle.wasm_bytes.proofs.Loop.{with_front}
use Rattle.wasm_code.specs.Locals.{runs}
use Rattle.wasm_code.proofs.locals.read_runs.Given as goal

abbrev pub invariant-loop : goal.invariant-loop
invariant-loop l = record {
  value : with_front l.items (runs (l.count - l.counter) l.total l.reader) ≡ runs l.count l.fn.total l.fn.reader;
  total : l.total ≡ l.fn.total + sum_by (λ r. r.0) l.items;
}
