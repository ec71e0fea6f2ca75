use Rattle.std.proofs.Common.{sym, refl}
use Rattle.std.proofs.lemmas.Result.{err_from_is_err_and}
use Rattle.wasm_ops.proofs.Made.{fails_first}
use Rattle.wasm_ops.specs.Operands.{operands}
use Rattle.wasm_ops.specs.declared.shapes.Shape.TheVariants as shapes
use Rattle.wasm_ops.specs.declared.ops.Op.TheVariants as ops
use Rattle.wasm_code.proofs.OneOp.{code_read, op_by_shape, fails_by_shape, stays_open, plain_stays, made_of}
use Rattle.wasm_code.proofs.code.read_on.Goals as goal

pub returns-in_ok-push-in-Some-Plain-clause-ok : goal.returns-in_ok-push-in-Some-Plain-clause-ok
unfolding operands
returns-in_ok-push-in-Some-Plain-clause-ok c =
    let code = code_read c.in_ok-byte-in-Some-Plain.field-0 c.in-Ok.code c.args.reader.now c.byte.new.self c.in_ok-byte-in-Some-Plain.ensures.value c.in-Ok.ensures.value in
    let found = op_by_shape c.args.counts.now c.args.labels.now c.in-Ok.code shapes.Plain c.args.reader.now c.byte.new.self c.byte.new.self (ops.Plain c.in-Ok.code) code (rw (← c.shape_within.ensures, c.in-Some-Plain.is, c.in-Some-Plain.field-0-is) refl) refl in
    (ops.Plain c.in-Ok.code, stays_open c.args.counts.now c.args.labels.now c.args.reader.now c.byte.new.self (ops.Plain c.in-Ok.code) found (plain_stays c.in-Ok.code c.args.labels.now c.if-code-ne5.true c.if-code-ne11.true) (sym c.if-is_empty.ensures), c.in_ok-push-in-Some-Plain.ensures.ok)

pub returns-in_err-local-in-Some-Local-clause-err : goal.returns-in_err-local-in-Some-Local-clause-err
unfolding operands
returns-in_err-local-in-Some-Local-clause-err c =
    let p = err_from_is_err_and c.from_residual-in_err-local-in-Some-Local.result c.from_residual-in_err-local-in-Some-Local.ensures.1 in
    let code = code_read c.in_ok-byte-in-Some-Local.field-0 c.in-Ok.code c.args.reader.now c.byte-in-Some-Local.new.self c.in_ok-byte-in-Some-Local.ensures.value c.in-Ok.ensures.value in
    rw (p.1, p.2) (fails_by_shape c.in_err-local-in-Some-Local.field-0.0 c.args.counts.now c.args.labels.now c.in-Ok.code shapes.Local c.args.reader.now c.byte-in-Some-Local.new.self code (rw (← c.shape_within.ensures, c.in-Some-Local.is, c.in-Some-Local.field-0-is) refl) (fails_first c.in_err-local-in-Some-Local.field-0.0 _ _ c.in_err-local-in-Some-Local.ensures.value))

pub returns-in_ok-push-in-Some-Local-clause-ok : goal.returns-in_ok-push-in-Some-Local-clause-ok
unfolding operands
returns-in_ok-push-in-Some-Local-clause-ok c =
    let code = code_read c.in_ok-byte-in-Some-Local.field-0 c.in-Ok.code c.args.reader.now c.byte-in-Some-Local.new.self c.in_ok-byte-in-Some-Local.ensures.value c.in-Ok.ensures.value in
    let found = op_by_shape c.args.counts.now c.args.labels.now c.in-Ok.code shapes.Local c.args.reader.now c.byte-in-Some-Local.new.self c.read_index.new.reader (ops.Local c.in-Ok.code c.in_ok-local-in-Some-Local.local) code (rw (← c.shape_within.ensures, c.in-Some-Local.is, c.in-Some-Local.field-0-is) refl) (made_of (λ local. ops.Local c.in-Ok.code local) _ _ _ c.in_ok-local-in-Some-Local.ensures.value) in
    ((ops.Local c.in-Ok.code c.in_ok-local-in-Some-Local.local), stays_open c.args.counts.now c.args.labels.now c.args.reader.now c.read_index.new.reader (ops.Local c.in-Ok.code c.in_ok-local-in-Some-Local.local) found refl (sym c.if-is_empty.ensures), c.in_ok-push-in-Some-Local.ensures.ok)
