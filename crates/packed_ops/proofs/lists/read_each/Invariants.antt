use Rattle.std.proofs.Common.{◌≡◌, ◌-◌}
use Rattle.wasm_bytes.specs.Reading.{entries}
use Rattle.wasm_bytes.proofs.Loop.{with_front}
use Rattle.packed_ops.proofs.lists.read_each.Given as goal

abbrev pub invariant-loop : goal.invariant-loop
invariant-loop g l = with_front l.items (entries (l.count - l.counter) g.T.Item.form l.reader) ≡ entries l.count g.T.Item.form l.fn.reader
