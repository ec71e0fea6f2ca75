use Rattle.std.proofs.Common.{ap, ◌∙◌, ◌++◌, ◌∷◌, []}
use Rattle.glue_tree.specs.Term.{Bind}
use Rattle.glue_operands.specs.Spelling.{Local}
use Rattle.glue_binding.specs.Spelling.{Ahead, first, unsigned_64_call}
use Rattle.glue_binding.specs.Body.{newest_first, plain_pieces}
use Rattle.glue_binding.proofs.numbers.to_unsigned_64.Goals as goal

pub returns : goal.returns
returns c =
    let body = c.args.body.now in
    let value = c.in_ok-number.ensures ∙ ap unsigned_64_call c.pop-operand.ensures.top in record {
      after = record {
        pieces = c.in_ok-bind_value.ensures.pieces ∙ ap
            (λ e. plain_pieces body.pieces ++ Ahead (Bind (first (newest_first body.coming)) e) ∷ []) value;
        stack = c.in_ok-bind_value.ensures.stack ∙ ap (λ stack. Local (first (newest_first body.coming))
            ∷ stack) c.pop-operand.ensures.below;
        names = c.in_ok-bind_value.ensures.names;
      };
    }
