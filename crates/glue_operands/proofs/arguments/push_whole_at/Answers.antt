use Rattle.std.proofs.Common.{ap, ◌∙◌, arith}
use Rattle.glue_operands.specs.Plainly.{plain_operand}
use Rattle.glue_operands.specs.declared.operand.Operand.TheVariants.{Missing}
use Rattle.glue_operands.proofs.Plain.{missing_plain}
use Rattle.glue_operands.proofs.Written.{operand_found, operand_missing}
use Rattle.glue_operands.proofs.arguments.push_whole_at.Goals as goal

pub returns-in-Some : goal.returns-in-Some
returns-in-Some c =
    let h = c.in-Some.ensures.lookup in
    let found = ap plain_operand (h.3.1 Missing) ∙ operand_found c.args.operands.now c.args.place h.3.0 in
    record { words = rw found at c.push_whole.ensures.words }

pub returns-in-None : goal.returns-in-None
returns-in-None c =
    let found = missing_plain ∙ operand_missing c.args.operands.now c.args.place (grind (arith, c.in-None.ensures.lookup)) in
    record { words = rw found at c.push_whole-in-None.ensures.words }
