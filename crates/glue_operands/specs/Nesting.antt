-- How many steps nest.
use Rattle.std.specs.Prelude.{Bool, true, false, List, nat_lt}
use Rattle.std.specs.List.{count_by}
use Rattle.glue_steps.specs.declared.step.Step.{Step}
use Rattle.glue_steps.specs.declared.step.Step.TheVariants as steps
use Rattle.glue_operands.specs.declared.nesting.TheConstants.{MOST_NESTING}

-- What stands behind a step stands in its `try`, or its operand in another one. Of the other steps some put their operand into a statement, and what
-- they give is a local.
abbrev pub nests : Step → Bool
nests steps.IndexFromBorrow = true
nests (steps.DeferFree free align) = true
nests (steps.ReturnPointer size) = true
nests steps.ToUnsigned = true
nests steps.IsNotZero = true
nests other = false

-- more steps nest than may
abbrev pub nests_too_often : List Step → Bool
nests_too_often steps = nat_lt MOST_NESTING (count_by nests steps)
