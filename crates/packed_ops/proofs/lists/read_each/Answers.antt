use Rattle.std.proofs.lemmas.Result.{err_from_is_err_and}
use Rattle.wasm_bytes.specs.Reading.{entries}
use Rattle.wasm_bytes.proofs.Loop.{goes_on, ends, is_done}
use Rattle.packed_ops.proofs.lists.read_each.Goals as goal

pub returns-in_err-read : goal.returns-in_err-read
returns-in_err-read g c =
    let p = err_from_is_err_and c.from_residual.result c.from_residual.ensures.1 in
    rw (p.1, p.2) (ends g.T.Item.form c.in_err-read.field-0.0 c.loop.items c.args.count c.loop.counter c.loop.reader (entries c.args.count g.T.Item.form c.args.reader.now) c.loop-test.true c.in_err-read.ensures c.loop.invariant)

pub loop-preserved : goal.loop-preserved
loop-preserved g c = rw c.in_ok-push.ensures.ok (goes_on g.T.Item.form c.loop.items c.args.count c.loop.counter c.loop.reader c.in_ok-read.field-0 c.read.new.reader (entries c.args.count g.T.Item.form c.args.reader.now) c.loop-test.true c.in_ok-read.ensures c.loop.invariant)

pub returns : goal.returns
returns g c = is_done g.T.Item.form c.loop.items c.args.count c.loop.counter c.loop.reader (entries c.args.count g.T.Item.form c.args.reader.now) c.loop-test.false c.loop.invariant
