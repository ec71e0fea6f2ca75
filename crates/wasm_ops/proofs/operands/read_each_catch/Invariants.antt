use Rattle.std.proofs.Common.{◌≡◌, ◌-◌}
use Rattle.wasm_bytes.specs.Reading.{entries}
use Rattle.wasm_bytes.proofs.Loop.{with_front}
use Rattle.wasm_ops.specs.Operands.{catch_clause}
use Rattle.wasm_ops.proofs.operands.read_each_catch.Given as goal

abbrev pub invariant-loop : goal.invariant-loop
invariant-loop l = with_front l.clauses (entries (l.count - l.counter) (catch_clause l.counts l.blocks) l.reader) ≡ entries l.count (catch_clause l.counts l.blocks) l.fn.reader
