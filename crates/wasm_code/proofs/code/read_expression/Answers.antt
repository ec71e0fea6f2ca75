use Rattle.std.proofs.Common.{◌≡◌, false, Some, None, Ok, [], ◌∷◌}
use Rattle.std.proofs.lemmas.Result.{err_from_is_err_and}
use Rattle.wasm_bytes.specs.Reading.{collected}
use Rattle.wasm_bytes.specs.Gives.{Fails}
use Rattle.wasm_bytes.proofs.Loop.{collects_more, collects_all, collects_fault, collects_out}
use Rattle.wasm_code.specs.Code.{next_op, expression}
use Rattle.wasm_code.proofs.code.read_expression.Goals as goal

pub returns-in_err-read_on : goal.returns-in_err-read_on
unfolding expression
returns-in_err-read_on c =
    let p = err_from_is_err_and c.from_residual-in_err-read_on.result c.from_residual-in_err-read_on.ensures.1 in
    let fails = rw c.deref.ensures.value at c.in_err-read_on.ensures.err in
    rw (p.1, p.2, ← c.len-end.ensures) (collects_fault (next_op c.args.counts.now) c.in_err-read_on.field-0.0 c.loop.ops c.len-end.result c.loop.counter c.loop.labels.items c.loop.reader (collected c.len-end.result (next_op c.args.counts.now) (false ∷ []) c.args.reader.now) c.loop-test.true fails c.loop.invariant)

pub loop-preserved-then-branch : goal.loop-preserved-then-branch
loop-preserved-then-branch c =
    let on = rw (c.if-branch.true, c.deref.ensures.value) at c.in_ok-read_on.ensures.ok in
    rw on.2 (collects_more (next_op c.args.counts.now) c.loop.ops c.len-end.result c.loop.counter c.loop.labels.items c.loop.reader on.0 c.loop.labels.items c.read_on.new.reader (collected c.len-end.result (next_op c.args.counts.now) (false ∷ []) c.args.reader.now) c.loop-test.true on.1 c.loop.invariant)

pub returns-in_err-read_next_op : goal.returns-in_err-read_next_op
unfolding expression
returns-in_err-read_next_op c =
    let same = rw c.if-branch.false at c.in_ok-read_on.ensures.ok in
    let p = err_from_is_err_and c.from_residual-in_err-read_next_op.result c.from_residual-in_err-read_next_op.ensures.1 in
    let fails : Fails c.in_err-read_next_op.field-0.0 (next_op c.args.counts.now c.loop.labels.items c.loop.reader) = rw (← same.0) c.in_err-read_next_op.ensures in
    rw (p.1, p.2, ← c.len-end.ensures) (collects_fault (next_op c.args.counts.now) c.in_err-read_next_op.field-0.0 c.loop.ops c.len-end.result c.loop.counter c.loop.labels.items c.loop.reader (collected c.len-end.result (next_op c.args.counts.now) (false ∷ []) c.args.reader.now) c.loop-test.true fails c.loop.invariant)

pub loop-preserved : goal.loop-preserved
loop-preserved c =
    let same = rw c.if-branch.false at c.in_ok-read_on.ensures.ok in
    let found : next_op c.args.counts.now c.loop.labels.items c.loop.reader ≡ Ok ((Some c.in-Some.op, c.read_next_op.new.labels.items), c.read_next_op.new.reader) = rw (← same.0) (rw c.in-Some.is at c.in_ok-read_next_op.ensures) in
    rw (c.in_ok-push-in-Some.ensures.ok, same.1) (collects_more (next_op c.args.counts.now) c.loop.ops c.len-end.result c.loop.counter c.loop.labels.items c.loop.reader c.in-Some.op c.read_next_op.new.labels.items c.read_next_op.new.reader (collected c.len-end.result (next_op c.args.counts.now) (false ∷ []) c.args.reader.now) c.loop-test.true found c.loop.invariant)

pub returns-in-None : goal.returns-in-None
unfolding expression
returns-in-None c =
    let same = rw c.if-branch.false at c.in_ok-read_on.ensures.ok in
    let found : next_op c.args.counts.now c.loop.labels.items c.loop.reader ≡ Ok ((None, c.read_next_op.new.labels.items), c.read_next_op.new.reader) = rw (← same.0) (rw c.in-None.is at c.in_ok-read_next_op.ensures) in
    rw (← c.len-end.ensures, same.1) (collects_all (next_op c.args.counts.now) c.loop.ops c.len-end.result c.loop.counter c.loop.labels.items c.loop.reader c.read_next_op.new.labels.items c.read_next_op.new.reader (collected c.len-end.result (next_op c.args.counts.now) (false ∷ []) c.args.reader.now) c.loop-test.true found c.loop.invariant)

pub returns : goal.returns
unfolding expression
returns c = rw (← c.len-end.ensures, c.end.ensures) (collects_out (next_op c.args.counts.now) c.loop.ops c.len-end.result c.loop.counter c.loop.labels.items c.loop.reader (collected c.len-end.result (next_op c.args.counts.now) (false ∷ []) c.args.reader.now) c.loop-test.false c.loop.invariant)
