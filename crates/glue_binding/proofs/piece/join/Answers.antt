use Rattle.std.proofs.Common.{sym, ap, ◌∙◌}
use Rattle.glue_tree.specs.Plainly.{plain_stmts}
use Rattle.glue_binding.specs.Spelling.{nested}
use Rattle.glue_binding.specs.Body.{plain_pieces, behind}
use Rattle.glue_binding.proofs.Stacks.{nested_last}
use Rattle.glue_binding.proofs.piece.join.Goals as goal

pub loop-piece-init : goal.loop-piece-init
unfolding behind
loop-piece-init c = ap (λ l. nested (plain_pieces c.args.pieces) (behind l)) c.new-lines.ensures.items

pub loop-piece-preserved : goal.loop-piece-preserved
loop-piece-preserved c =
    ap (nested (plain_pieces c.pop.new.self)) c.in_ok-lines.ensures
    ∙ sym (nested_last c.pop.new.self c.in-Some.piece (behind c.loop-piece.lines.items))
    ∙ ap (λ l. nested (plain_pieces l) (behind c.loop-piece.lines.items)) (sym c.in-Some.ensures)
    ∙ c.loop-piece.invariant

pub returns : goal.returns
unfolding behind plain_pieces
returns c = record {
  tree = ap plain_stmts (c.from_vec.ensures ∙ c.reverse.ensures.items)
      ∙ ap (λ l. nested (plain_pieces l) (behind c.loop-piece.lines.items)) (sym c.in_default.ensures.0)
      ∙ c.loop-piece.invariant;
}
