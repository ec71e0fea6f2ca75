use Rattle.std.proofs.Common.{arith}
use Rattle.std.proofs.lemmas.List.Sums.{sum_by_push}
use Rattle.std.proofs.lemmas.Result.{err_from_is_err_and}
use Rattle.wasm_code.specs.Locals.{runs}
use Rattle.wasm_code.proofs.RunSteps.{runs_more, runs_fault, runs_done}
use Rattle.wasm_code.proofs.locals.read_runs.Goals as goal

pub returns-in_err-read_run-clause-value : goal.returns-in_err-read_run-clause-value
returns-in_err-read_run-clause-value c =
    let p = err_from_is_err_and c.from_residual.result c.from_residual.ensures.1 in
    rw (p.1, p.2) (runs_fault c.in_err-read_run.field-0.0 c.loop.items c.args.count c.loop.counter c.loop.total c.loop.reader (runs c.args.count c.args.total.now c.args.reader.now) c.loop-test.true c.in_err-read_run.ensures.value c.loop.invariant.value)

pub loop-preserved : goal.loop-preserved
loop-preserved c = record {
  value = rw (c.in_ok-push.ensures.ok, c.in_ok-read_run.ensures.sum) (runs_more c.loop.items c.args.count c.loop.counter c.loop.total c.loop.reader c.in_ok-read_run.field-0 c.read_run.new.reader (runs c.args.count c.args.total.now c.args.reader.now) c.loop-test.true c.in_ok-read_run.ensures.value c.loop.invariant.value);
  total = rw (c.in_ok-push.ensures.ok, c.in_ok-read_run.ensures.sum, sum_by_push (λ r. r.0) c.loop.items c.in_ok-read_run.field-0) (omega (arith, c.loop.invariant.total));
}

pub returns-clause-value : goal.returns-clause-value
returns-clause-value c = runs_done c.loop.items c.args.count c.loop.counter c.loop.total c.loop.reader (runs c.args.count c.args.total.now c.args.reader.now) c.loop-test.false c.loop.invariant.value
