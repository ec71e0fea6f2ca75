use Rattle.std.proofs.Common.{◌≡◌, ◌-◌, length}
use Rattle.wasm_bytes.specs.Reading.{entries}
use Rattle.wasm_bytes.proofs.Loop.{with_front}
use Rattle.wasm_file.proofs.grammar.read_each_of.Given as goal

abbrev pub invariant-loop : goal.invariant-loop
invariant-loop g l = record {
  value : with_front l.items (entries (l.count - l.counter) (g.L.Listed.grammar l.counts) l.reader) ≡ entries l.count (g.L.Listed.grammar l.counts) l.fn.reader;
  len : length l.items ≡ l.counter;
}
