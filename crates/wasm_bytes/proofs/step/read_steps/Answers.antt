use Rattle.std.proofs.Common.{sym, ◌∙◌}
use Rattle.std.proofs.lemmas.Result.{err_from_is_err_and}
use Rattle.wasm_bytes.proofs.Loop.{until_stops, until_out, until_goes_on, until_ends}
use Rattle.wasm_bytes.proofs.step.read_steps.Goals as goal

pub returns-in_err-read_step : goal.returns-in_err-read_step
returns-in_err-read_step g c =
    let p = err_from_is_err_and c.from_residual.result c.from_residual.ensures.1 in
    rw (p.1, p.2, ← c.len-end.ensures, ← c.loop.invariant) (until_ends c.len-end.result c.loop.counter g.S.Step.step c.loop.state c.loop.reader c.in_err-read_step.field-0.0 c.loop-test.true (rw c.len.ensures at c.if-len-eq0.false) c.in_err-read_step.ensures)

pub loop-preserved : goal.loop-preserved
loop-preserved g c = sym (until_goes_on c.len-end.result c.loop.counter g.S.Step.step c.loop.state c.loop.reader c.read_step.new.self c.read_step.new.reader c.loop-test.true (rw c.len.ensures at c.if-len-eq0.false) c.in_ok-read_step.ensures) ∙ c.loop.invariant

pub returns-after-loop : goal.returns-after-loop
returns-after-loop g c = rw (← c.len-end.ensures, ← c.loop.invariant) (until_out c.len-end.result c.loop.counter g.S.Step.step c.loop.state c.loop.reader c.loop-test.false)

pub returns-then-len-eq0 : goal.returns-then-len-eq0
returns-then-len-eq0 g c = rw (← c.len-end.ensures, ← c.loop.invariant) (until_stops _ g.S.Step.step c.loop.state c.loop.reader (sym c.len.ensures ∙ c.if-len-eq0.true))
