use Rattle.std.proofs.Common.{refl}
use Rattle.std.proofs.lemmas.Result.{err_from_is_err_and}
use Rattle.wasm_bytes.specs.Reading.{pure}
use Rattle.wasm_types.specs.Entries.{data_index, elem_index, memory_index, table_index}
use Rattle.wasm_ops.specs.Operands.{bulk_after}
use Rattle.wasm_ops.specs.declared.ops.Op.TheVariants as ops
use Rattle.wasm_ops.proofs.Made.{made, fails_both, fails_first}
use Rattle.wasm_ops.proofs.operands.read_bulk_after.Goals as goal

pub returns-in_ok-segment-in-8 : goal.returns-in_ok-segment-in-8
unfolding bulk_after
returns-in_ok-segment-in-8 c = rw c.in-8.is (made ops.MemoryInit (data_index c.args.counts.now c.args.reader.now) (memory_index c.args.counts.now) c.in_ok-segment-in-8.segment c.in_ok-segment-in-8.memory _ c.in_ok-segment-in-8.ensures)

pub returns-in_err-segment-in-8 : goal.returns-in_err-segment-in-8
unfolding bulk_after
returns-in_err-segment-in-8 c =
    let p = err_from_is_err_and c.from_residual.result c.from_residual.ensures.1 in
    rw (c.in-8.is, p.1, p.2) (fails_both c.in_err-segment-in-8.field-0.0 ops.MemoryInit (data_index c.args.counts.now c.args.reader.now) (memory_index c.args.counts.now) c.in_err-segment-in-8.ensures)

pub returns-in_ok-to-in-10 : goal.returns-in_ok-to-in-10
unfolding bulk_after
returns-in_ok-to-in-10 c = rw c.in-10.is (made ops.MemoryCopy (memory_index c.args.counts.now c.args.reader.now) (memory_index c.args.counts.now) c.in_ok-to-in-10.to c.in_ok-to-in-10.from _ c.in_ok-to-in-10.ensures)

pub returns-in_err-to-in-10 : goal.returns-in_err-to-in-10
unfolding bulk_after
returns-in_err-to-in-10 c =
    let p = err_from_is_err_and c.from_residual-in_err-to-in-10.result c.from_residual-in_err-to-in-10.ensures.1 in
    rw (c.in-10.is, p.1, p.2) (fails_both c.in_err-to-in-10.field-0.0 ops.MemoryCopy (memory_index c.args.counts.now c.args.reader.now) (memory_index c.args.counts.now) c.in_err-to-in-10.ensures)

pub returns-in_ok-elem-in-12 : goal.returns-in_ok-elem-in-12
unfolding bulk_after
returns-in_ok-elem-in-12 c = rw c.in-12.is (made ops.TableInit (elem_index c.args.counts.now c.args.reader.now) (table_index c.args.counts.now) c.in_ok-elem-in-12.elem c.in_ok-elem-in-12.table _ c.in_ok-elem-in-12.ensures)

pub returns-in_err-elem-in-12 : goal.returns-in_err-elem-in-12
unfolding bulk_after
returns-in_err-elem-in-12 c =
    let p = err_from_is_err_and c.from_residual-in_err-elem-in-12.result c.from_residual-in_err-elem-in-12.ensures.1 in
    rw (c.in-12.is, p.1, p.2) (fails_both c.in_err-elem-in-12.field-0.0 ops.TableInit (elem_index c.args.counts.now c.args.reader.now) (table_index c.args.counts.now) c.in_err-elem-in-12.ensures)

pub returns-in_ok-to-in-14 : goal.returns-in_ok-to-in-14
unfolding bulk_after
returns-in_ok-to-in-14 c = rw c.in-14.is (made ops.TableCopy (table_index c.args.counts.now c.args.reader.now) (table_index c.args.counts.now) c.in_ok-to-in-14.to c.in_ok-to-in-14.from _ c.in_ok-to-in-14.ensures)

pub returns-in_err-to-in-14 : goal.returns-in_err-to-in-14
unfolding bulk_after
returns-in_err-to-in-14 c =
    let p = err_from_is_err_and c.from_residual-in_err-to-in-14.result c.from_residual-in_err-to-in-14.ensures.1 in
    rw (c.in-14.is, p.1, p.2) (fails_both c.in_err-to-in-14.field-0.0 ops.TableCopy (table_index c.args.counts.now c.args.reader.now) (table_index c.args.counts.now) c.in_err-to-in-14.ensures)

pub returns-in_ok-read-in-9 : goal.returns-in_ok-read-in-9
unfolding bulk_after
returns-in_ok-read-in-9 c = rw (c.in-9.is, c.in_ok-read-in-9.ensures) refl

pub returns-in_err-read-in-9 : goal.returns-in_err-read-in-9
unfolding bulk_after
returns-in_err-read-in-9 c =
    let p = err_from_is_err_and c.from_residual-in_err-read-in-9.result c.from_residual-in_err-read-in-9.ensures.1 in
    rw (c.in-9.is, p.1, p.2) (fails_first c.in_err-read-in-9.field-0.0 (data_index c.args.counts.now c.args.reader.now) (λ x. pure (ops.DataDrop x)) c.in_err-read-in-9.ensures)

pub returns-in_ok-read-in-11 : goal.returns-in_ok-read-in-11
unfolding bulk_after
returns-in_ok-read-in-11 c = rw (c.in-11.is, c.in_ok-read-in-11.ensures) refl

pub returns-in_err-read-in-11 : goal.returns-in_err-read-in-11
unfolding bulk_after
returns-in_err-read-in-11 c =
    let p = err_from_is_err_and c.from_residual-in_err-read-in-11.result c.from_residual-in_err-read-in-11.ensures.1 in
    rw (c.in-11.is, p.1, p.2) (fails_first c.in_err-read-in-11.field-0.0 (memory_index c.args.counts.now c.args.reader.now) (λ x. pure (ops.MemoryFill x)) c.in_err-read-in-11.ensures)

pub returns-in_ok-read-in-13 : goal.returns-in_ok-read-in-13
unfolding bulk_after
returns-in_ok-read-in-13 c = rw (c.in-13.is, c.in_ok-read-in-13.ensures) refl

pub returns-in_err-read-in-13 : goal.returns-in_err-read-in-13
unfolding bulk_after
returns-in_err-read-in-13 c =
    let p = err_from_is_err_and c.from_residual-in_err-read-in-13.result c.from_residual-in_err-read-in-13.ensures.1 in
    rw (c.in-13.is, p.1, p.2) (fails_first c.in_err-read-in-13.field-0.0 (elem_index c.args.counts.now c.args.reader.now) (λ x. pure (ops.ElemDrop x)) c.in_err-read-in-13.ensures)
