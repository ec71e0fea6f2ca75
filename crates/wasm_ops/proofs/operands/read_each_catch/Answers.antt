use Rattle.std.proofs.lemmas.Result.{err_from_is_err_and}
use Rattle.wasm_bytes.specs.Reading.{entries}
use Rattle.wasm_ops.specs.Operands.{catch_clause}
use Rattle.wasm_bytes.proofs.Loop.{goes_on, ends, is_done}
use Rattle.wasm_ops.proofs.operands.read_each_catch.Goals as goal

pub returns-in_err-read_catch : goal.returns-in_err-read_catch
returns-in_err-read_catch c =
    let p = err_from_is_err_and c.from_residual.result c.from_residual.ensures.1 in
    rw (p.1, p.2) (ends (catch_clause c.args.counts.now c.args.blocks) c.in_err-read_catch.field-0.0 c.loop.clauses c.args.count c.loop.counter c.loop.reader (entries c.args.count (catch_clause c.args.counts.now c.args.blocks) c.args.reader.now) c.loop-test.true c.in_err-read_catch.ensures c.loop.invariant)

pub loop-preserved : goal.loop-preserved
loop-preserved c = rw c.in_ok-push.ensures.ok (goes_on (catch_clause c.args.counts.now c.args.blocks) c.loop.clauses c.args.count c.loop.counter c.loop.reader c.in_ok-read_catch.field-0 c.read_catch.new.reader (entries c.args.count (catch_clause c.args.counts.now c.args.blocks) c.args.reader.now) c.loop-test.true c.in_ok-read_catch.ensures c.loop.invariant)

pub returns : goal.returns
returns c = is_done (catch_clause c.args.counts.now c.args.blocks) c.loop.clauses c.args.count c.loop.counter c.loop.reader (entries c.args.count (catch_clause c.args.counts.now c.args.blocks) c.args.reader.now) c.loop-test.false c.loop.invariant
