use Rattle.std.proofs.Common.{ap, ◌∙◌, ◌++◌, ◌∷◌, [], map}
use Rattle.glue_tree.specs.Term.{Bind}
use Rattle.glue_operands.specs.Spelling.{Local}
use Rattle.glue_binding.specs.Spelling.{Ahead, first, helper_call}
use Rattle.glue_binding.specs.Body.{newest_first, plain_pieces}
use Rattle.glue_operands.specs.Plainly.{plain_operand}
use Rattle.glue_binding.proofs.objects.call_helper.Goals as goal

pub returns : goal.returns
returns c =
    let body = c.args.body.now in
    let args = ap (map plain_operand) c.deref.ensures.value ∙ c.in_ok-operands.ensures.operands in
    let value = c.in_ok-call.ensures ∙ ap (helper_call c.args.helper.now) args in record {
      after = record {
        pieces = c.in_ok-bind_value.ensures.pieces ∙ ap
            (λ e. plain_pieces body.pieces ++ Ahead (Bind (first (newest_first body.coming)) e) ∷ []) value;
        stack = c.in_ok-bind_value.ensures.stack ∙ ap (λ stack. Local (first (newest_first body.coming))
            ∷ stack) c.in_ok-operands.ensures.left;
        names = c.in_ok-bind_value.ensures.names;
      };
    }
