use Rattle.std.proofs.Common.{◌-◌, ◌<◌, ◌≤◌, length, slice_index_or, ap, ◌∙◌, arith}
use Rattle.glue_operands.proofs.Plain.{missing_plain}
use Rattle.glue_binding.proofs.Stacks.{operand_under, operand_absent}
use Rattle.glue_binding.proofs.memory.expr_under.Goals as goal

pub returns-then-above-len : goal.returns-then-above-len
returns-then-above-len c =
    let operands = c.args.stack.now in
    let x = c.index-operands-operands.result in
    let within : c.args.above < length operands = omega (arith, c.if-above-len.true, c.len.ensures) in
    let found = operand_under operands c.args.above x within
    (c.index-operands-operands.is ∙ ap (λ items. slice_index_or items (length items - 1 - c.args.above) x) c.as_slice-operands.ensures) in
    rw found at c.to_expr.ensures

pub returns-else-above-len : goal.returns-else-above-len
returns-else-above-len c =
    let past : length c.args.stack.now ≤ c.args.above = omega (arith, c.if-above-len.false, c.len.ensures) in
    let found = missing_plain ∙ operand_absent c.args.stack.now c.args.above past in
    rw found at c.to_expr-else-above-len.ensures
