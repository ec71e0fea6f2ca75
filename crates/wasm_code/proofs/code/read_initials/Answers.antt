use Rattle.std.proofs.lemmas.Result.{err_from_is_err_and}
use Rattle.wasm_bytes.specs.Reading.{entries}
use Rattle.wasm_code.specs.Code.{initial}
use Rattle.wasm_bytes.proofs.Loop.{goes_on, ends, is_done}
use Rattle.wasm_code.proofs.code.read_initials.Goals as goal

pub returns-in_err-read_initial_by : goal.returns-in_err-read_initial_by
returns-in_err-read_initial_by c =
    let p = err_from_is_err_and c.from_residual.result c.from_residual.ensures.1 in
    rw (p.1, p.2) (ends (initial c.args.counts.now) c.in_err-read_initial_by.field-0.0 c.loop.expressions c.args.count c.loop.counter c.loop.reader (entries c.args.count (initial c.args.counts.now) c.args.reader.now) c.loop-test.true c.in_err-read_initial_by.ensures c.loop.invariant)

pub loop-preserved : goal.loop-preserved
loop-preserved c = rw c.in_ok-push.ensures.ok (goes_on (initial c.args.counts.now) c.loop.expressions c.args.count c.loop.counter c.loop.reader c.in_ok-read_initial_by.field-0 c.read_initial_by.new.reader (entries c.args.count (initial c.args.counts.now) c.args.reader.now) c.loop-test.true c.in_ok-read_initial_by.ensures c.loop.invariant)

pub returns : goal.returns
returns c = is_done (initial c.args.counts.now) c.loop.expressions c.args.count c.loop.counter c.loop.reader (entries c.args.count (initial c.args.counts.now) c.args.reader.now) c.loop-test.false c.loop.invariant
