use Rattle.std.proofs.Common.{◌++◌, map, ap, ◌∙◌}
use Rattle.glue_operands.specs.Plainly.{plain_operand}
use Rattle.glue_operands.specs.Spelling.{part_words}
use Rattle.glue_operands.proofs.Lists.{appended}
use Rattle.glue_operands.proofs.import.push_parts.Goals as goal

pub loop-part-preserved : goal.loop-part-preserved
loop-part-preserved c =
    let args = map plain_operand c.args.operands.now in
    let word = part_words c.args.locals.now args in
    c.in_ok-push_part.ensures.words
    ∙ ap (λ l. l ++ word c.part-item.result) c.loop-part.invariant
    ∙ appended word c.args.parts.now c.loop-part.part-index c.part-item.result _
    c.loop-part-test.true c.part-item.is
