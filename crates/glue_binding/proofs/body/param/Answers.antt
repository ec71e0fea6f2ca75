use Rattle.std.proofs.Common.{◌∙◌, arith, ap}
use Rattle.glue_operands.specs.Plainly.{plain_operand}
use Rattle.glue_operands.specs.declared.operand.Operand.TheVariants.{Missing}
use Rattle.glue_operands.proofs.Plain.{missing_plain}
use Rattle.glue_operands.proofs.Written.{operand_found, operand_missing}
use Rattle.glue_binding.proofs.body.param.Goals as goal

pub returns-in-Some : goal.returns-in-Some
returns-in-Some c =
    let h = c.in-Some.ensures.lookup in
    let found = ap plain_operand (h.3.1 Missing) ∙ operand_found c.args.params.now c.args.place h.3.0 in
    record { operand = rw found at c.copy_operand.ensures }

pub returns-in-None : goal.returns-in-None
returns-in-None c = record {
  operand = missing_plain ∙ operand_missing c.args.params.now c.args.place (grind (arith, c.in-None.ensures.lookup));
}
