-- Operands without their pointers.
use Rattle.std.proofs.Common.{◌≡◌, ℕ, List, ap, sym, ◌∙◌}
use Rattle.glue_operands.specs.Spelling.{Plain, Missing, Local}
use Rattle.glue_operands.specs.Plainly.{operand_step, plain_operand}
use Rattle.glue_operands.specs.declared.operand.Operand.TheOpen.{Operand-F}
use Rattle.glue_operands.specs.declared.operand.Operand.TheFolds.{fold-roll-Operand}
use Rattle.glue_operands.specs.declared.operand.Operand.TheVariants as o

pub missing_plain : plain_operand o.Missing ≡ Missing
missing_plain = ap plain_operand (sym o.rolls-Missing) ∙ fold-roll-Operand Plain operand_step Operand-F.Missing

pub local_plain : (name : List ℕ) → plain_operand (o.Local name) ≡ Local name
local_plain name = ap plain_operand (sym (o.rolls-Local name))
    ∙ fold-roll-Operand Plain operand_step (Operand-F.Local name)
