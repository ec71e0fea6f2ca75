use Rattle.std.proofs.lemmas.Result.{err_from_is_err_and}
use Rattle.wasm_bytes.specs.Reading.{entries}
use Rattle.wasm_bytes.specs.Items.{index}
use Rattle.wasm_bytes.proofs.Loop.{goes_on, ends, is_done}
use Rattle.wasm_ops.proofs.operands.read_each_label.Goals as goal

pub returns-in_err-read_index : goal.returns-in_err-read_index
returns-in_err-read_index c =
    let p = err_from_is_err_and c.from_residual.result c.from_residual.ensures.1 in
    rw (p.1, p.2) (ends (index c.args.blocks) c.in_err-read_index.field-0.0 c.loop.labels c.args.count c.loop.counter c.loop.reader (entries c.args.count (index c.args.blocks) c.args.reader.now) c.loop-test.true c.in_err-read_index.ensures.value c.loop.invariant)

pub loop-preserved : goal.loop-preserved
loop-preserved c = rw c.in_ok-push.ensures.ok (goes_on (index c.args.blocks) c.loop.labels c.args.count c.loop.counter c.loop.reader c.in_ok-read_index.field-0 c.read_index.new.reader (entries c.args.count (index c.args.blocks) c.args.reader.now) c.loop-test.true c.in_ok-read_index.ensures.value c.loop.invariant)

pub returns : goal.returns
returns c = is_done (index c.args.blocks) c.loop.labels c.args.count c.loop.counter c.loop.reader (entries c.args.count (index c.args.blocks) c.args.reader.now) c.loop-test.false c.loop.invariant
