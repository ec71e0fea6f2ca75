use Rattle.std.proofs.Common.{ap, ◌∙◌, ◌++◌, ◌∷◌, []}
use Rattle.std.specs.Prelude.{codes}
use Rattle.glue_tree.specs.Term.{Bind}
use Rattle.glue_operands.specs.Spelling.{Local}
use Rattle.glue_binding.specs.Spelling.{Ahead, Cleanup, first, helper_call}
use Rattle.glue_binding.specs.Body.{newest_first, stack_of, plain_pieces}
use Rattle.glue_binding.proofs.Stacks.{two_pieces}
use Rattle.glue_binding.proofs.objects.borrow_index.Goals as goal

pub returns : goal.returns
returns c =
    let body = c.args.body.now in
    let value = c.in_ok-handle.ensures ∙ ap (λ p. helper_call
    (codes "addBorrowedObject") (p ∷ [])) c.pop-object.ensures.top in record {
      after = record {
        pieces = two_pieces _ _ _ _ _
            (c.in_ok-bind_value.ensures.pieces ∙ ap (λ e. plain_pieces body.pieces
            ++ Ahead (Bind (first (newest_first body.coming)) e) ∷ []) value)
            (c.in_ok-cleanup.ensures.pieces ∙ ap (λ line. plain_pieces c.bind_value.new.self.pieces ++ Cleanup line
            ∷ []) c.in_ok-given_back.ensures);
        stack = ap stack_of c.cleanup.ensures.stack ∙ c.in_ok-bind_value.ensures.stack
            ∙ ap (λ stack. Local (first (newest_first body.coming)) ∷ stack) c.pop-object.ensures.below;
        names = ap newest_first c.cleanup.ensures.names ∙ c.in_ok-bind_value.ensures.names;
      };
    }
