use Rattle.std.proofs.Common.{ap, ◌∙◌, ◌++◌, ◌∷◌, []}
use Rattle.std.specs.Prelude.{pos, neg_ℤ}
use Rattle.glue_tree.specs.Plainly.{plain_expr, plain_stmt}
use Rattle.glue_tree.specs.Term.{Bind}
use Rattle.glue_binding.specs.Spelling.{Ahead, Cleanup, first}
use Rattle.glue_binding.specs.Body.{newest_first, stack_of, plain_pieces}
use Rattle.glue_binding.proofs.Stacks.{two_pieces}
use Rattle.glue_binding.proofs.room.take_room.Goals as goal

pub returns-clause-after : goal.returns-clause-after
returns-clause-after c =
    let body = c.args.body.now in
    let names = newest_first body.coming in
    record {
      pieces = two_pieces _ _ _ _ _
          (c.in_ok-ahead.ensures.pieces
          ∙ ap (λ ps. plain_pieces ps ++ Ahead (plain_stmt c.bound_line.result) ∷ []) c.temporary.ensures.pieces
          ∙ ap (λ line. plain_pieces body.pieces ++ Ahead line ∷ []) (c.bound_line.ensures
          ∙ ap (λ name. Bind name (plain_expr c.in_ok-taken.taken)) c.in_ok-name.ensures.name
          ∙ ap (Bind (first names)) c.in_ok-taken.ensures))
          (c.in_ok-cleanup.ensures.pieces ∙ ap (λ line. plain_pieces c.ahead.new.self.pieces ++ Cleanup line ∷ []) c.in_ok-room_back.ensures);
      stack = ap stack_of c.cleanup.ensures.stack ∙ ap stack_of c.ahead.ensures.stack ∙ c.in_ok-name.ensures.stack;
      names = ap newest_first c.cleanup.ensures.names ∙ ap newest_first c.ahead.ensures.names ∙ c.in_ok-name.ensures.names;
    }
