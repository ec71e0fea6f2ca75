use Rattle.wasm_code.specs.Locals.{joined_runs}
use Rattle.wasm_code.proofs.RunSteps.{first_of_runs, ends_with_none, ends_with_run}
use Rattle.wasm_code.proofs.locals.join_runs.Goals as goal

pub loop-run-init : goal.loop-run-init
loop-run-init c = rw c.new-done.ensures (first_of_runs c.args.runs.now)

pub returns-in-None : goal.returns-in-None
returns-in-None c = ends_with_none c.loop-run.done c.loop-run.last c.loop-run.run-index c.args.runs.now (joined_runs c.args.runs.now) c.loop-run-test.false c.in-None.is c.loop-run.invariant

pub returns-in_ok-push-in-Some : goal.returns-in_ok-push-in-Some
returns-in_ok-push-in-Some c = rw c.in_ok-push-in-Some.ensures.ok (ends_with_run c.loop-run.done c.loop-run.last c.in-Some.run' c.loop-run.run-index c.args.runs.now (joined_runs c.args.runs.now) c.loop-run-test.false c.in-Some.is c.loop-run.invariant)
