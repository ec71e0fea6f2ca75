use Rattle.std.proofs.Common.{◌≡◌, ◌-◌}
use Rattle.wasm_bytes.specs.Reading.{entries}
use Rattle.wasm_bytes.specs.Items.{index}
use Rattle.wasm_bytes.proofs.Loop.{with_front}
use Rattle.wasm_ops.proofs.operands.read_each_label.Given as goal

abbrev pub invariant-loop : goal.invariant-loop
invariant-loop l = with_front l.labels (entries (l.count - l.counter) (index l.blocks) l.reader) ≡ entries l.count (index l.blocks) l.fn.reader
