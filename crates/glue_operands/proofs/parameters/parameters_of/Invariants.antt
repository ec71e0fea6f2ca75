use Rattle.std.proofs.Common.{◌≡◌, ◌++◌, [], take, map}
use Rattle.glue_operands.specs.Plainly.{plain_operand}
use Rattle.glue_operands.specs.Spelling.{This, Local}
use Rattle.glue_operands.specs.Form.{first_if}
use Rattle.glue_operands.proofs.parameters.parameters_of.Given as goal

abbrev pub invariant-loop-name : goal.invariant-loop-name
invariant-loop-name l = map plain_operand l.operands ≡ first_if l.fn.form.takes_this This [] ++ map Local (take l.name-index l.names)
