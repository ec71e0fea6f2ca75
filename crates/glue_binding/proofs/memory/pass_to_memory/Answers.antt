use Rattle.std.proofs.Common.{ap, ◌∙◌, ◌++◌, ◌∷◌, []}
use Rattle.glue_tree.specs.Term.{Bind}
use Rattle.glue_operands.specs.Spelling.{Local}
use Rattle.glue_binding.specs.Spelling.{Ahead, first, later, address_term, written_length}
use Rattle.glue_binding.specs.Body.{newest_first, stack_of, plain_pieces}
use Rattle.glue_binding.proofs.Stacks.{two_pieces}
use Rattle.glue_binding.proofs.memory.pass_to_memory.Goals as goal

pub returns : goal.returns
returns c =
    let body = c.args.body.now in
    let names = newest_first body.coming in
    let after = c.bind_value.new.self in
    let one = c.in_ok-bind_value.ensures in
    let two = c.in_ok-bind_value-2.ensures in
    let address = c.in_ok-address.ensures
    ∙ ap (address_term c.args.optional c.args.key.now c.args.exports.now) c.pop-operand.ensures.top in
    let length = c.in_ok-length.ensures in record {
      after = record {
        pieces = two_pieces _ _ _ _ _
            (one.pieces ∙ ap (λ e. plain_pieces body.pieces ++ Ahead (Bind (first names) e) ∷ []) address)
            (two.pieces
            ∙ ap (λ e. plain_pieces after.pieces ++ Ahead (Bind (first (newest_first after.coming)) e) ∷ []) length
            ∙ ap (λ ns. plain_pieces after.pieces ++ Ahead (Bind (first ns) written_length) ∷ []) one.names);
        stack = two.stack ∙ ap (λ ns. Local (first ns) ∷ stack_of after.stack) one.names
            ∙ ap (λ stack. Local (first (later names)) ∷ stack)
            (one.stack ∙ ap (λ stack. Local (first names) ∷ stack) c.pop-operand.ensures.below);
        names = two.names ∙ ap later one.names;
      };
    }
