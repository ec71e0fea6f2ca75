use Rattle.std.proofs.Common.{◌≡◌, ◌-◌}
use Rattle.wasm_bytes.specs.Reading.{until_end}
use Rattle.wasm_bytes.proofs.step.read_steps.Given as goal

abbrev pub invariant-loop : goal.invariant-loop
invariant-loop g l = until_end (l.end - l.counter) g.S.Step.step l.state l.reader ≡ until_end l.end g.S.Step.step l.fn.state l.fn.reader
