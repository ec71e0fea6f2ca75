-- Operands without their pointers.
use Rattle.glue_operands.specs.Spelling as s
use Rattle.glue_operands.specs.declared.operand.Operand.{Operand}
use Rattle.glue_operands.specs.declared.operand.Operand.TheOpen.{Operand-F}
use Rattle.glue_operands.specs.declared.operand.Operand.TheFolds.{fold-Operand}

-- one layer of an operand, where the layers under it are done
abbrev pub operand_step : Operand-F s.Plain → s.Plain
operand_step Operand-F.Missing = s.Missing
operand_step Operand-F.This = s.This
operand_step (Operand-F.Local name) = s.Local name
operand_step (Operand-F.Unsigned inner) = s.Unsigned inner
operand_step (Operand-F.NotZero inner) = s.NotZero inner

-- an operand without pointers
abbrev pub plain_operand : Operand → s.Plain
plain_operand = fold-Operand s.Plain operand_step
