use Rattle.std.proofs.Common.{◌≡◌, ◌++◌, [], drop, map}
use Rattle.glue_binding.specs.Body.{newest_first, stack_of, plain_pieces}
use Rattle.glue_operands.specs.Plainly.{plain_operand}
use Rattle.glue_binding.specs.Spelling.{pieces_of}
use Rattle.glue_binding.proofs.body.pieces_of.Given as goal

abbrev pub invariant-loop-step : goal.invariant-loop-step
invariant-loop-step l =
    plain_pieces l.body.pieces ++ pieces_of (drop l.step-index l.steps) (map plain_operand l.known) (stack_of l.body.stack)
    (newest_first l.body.coming)
    ≡ pieces_of l.steps (map plain_operand l.fn.params) [] l.fn.temps
