use Rattle.std.proofs.Common.{◌≡◌, ◌-◌}
use Rattle.wasm_bytes.specs.Reading.{collected}
use Rattle.wasm_bytes.proofs.Loop.{with_front}
use Rattle.wasm_code.specs.Code.{next_initial}
use Rattle.wasm_code.proofs.code.read_initial_by.Given as goal

abbrev pub invariant-loop : goal.invariant-loop
invariant-loop l = with_front l.ops (collected (l.end - l.counter) (next_initial l.counts) tt l.reader) ≡ collected l.end (next_initial l.counts) tt l.fn.reader
