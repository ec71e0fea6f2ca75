use Rattle.std.proofs.Common.{◌≡◌, take, map}
use Rattle.glue_tree.specs.Plainly.{plain_expr}
use Rattle.glue_operands.specs.Plainly.{plain_operand}
use Rattle.glue_operands.specs.Spelling.{term_of}
use Rattle.glue_operands.proofs.operand.to_exprs.Given as goal

abbrev pub invariant-loop-operand : goal.invariant-loop-operand
invariant-loop-operand l = map plain_expr l.exprs ≡ map term_of (map plain_operand (take l.operand-index l.operands))
