use Rattle.std.proofs.Common.{◌≡◌, ◌-◌, false}
use Rattle.wasm_bytes.specs.Reading.{entries}
use Rattle.wasm_file.specs.Customs.{is_plus, with_any}
use Rattle.wasm_file.proofs.customs.read_each_plus.Given as goal

abbrev pub invariant-loop : goal.invariant-loop
invariant-loop l = with_any l.found (entries (l.count - l.counter) (is_plus l.wanted) l.reader) ≡ with_any false (entries l.count (is_plus l.wanted) l.fn.reader)
