use Rattle.std.proofs.Common.{◌≡◌, ◌-◌, false, [], ◌∷◌}
use Rattle.wasm_bytes.specs.Reading.{collected}
use Rattle.wasm_bytes.proofs.Loop.{with_front}
use Rattle.wasm_code.specs.Code.{next_op}
use Rattle.wasm_code.proofs.code.read_expression.Given as goal

abbrev pub invariant-loop : goal.invariant-loop
invariant-loop l = with_front l.ops (collected (l.end - l.counter) (next_op l.counts) l.labels.items l.reader) ≡ collected l.end (next_op l.counts) (false ∷ []) l.fn.reader
