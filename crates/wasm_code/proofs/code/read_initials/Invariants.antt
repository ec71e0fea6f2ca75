use Rattle.std.proofs.Common.{◌≡◌, ◌-◌}
use Rattle.wasm_bytes.specs.Reading.{entries}
use Rattle.wasm_bytes.proofs.Loop.{with_front}
use Rattle.wasm_code.specs.Code.{initial}
use Rattle.wasm_code.proofs.code.read_initials.Given as goal

abbrev pub invariant-loop : goal.invariant-loop
invariant-loop l = with_front l.expressions (entries (l.count - l.counter) (initial l.counts) l.reader) ≡ entries l.count (initial l.counts) l.fn.reader
