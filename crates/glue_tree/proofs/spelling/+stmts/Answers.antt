use Rattle.std.proofs.Common.{◌++◌, ap, sym, ◌∙◌, arith}
use Rattle.std.proofs.lemmas.Grind.{common_steps}
use Rattle.glue_tree.specs.Spelling.{feed_unless}
use Rattle.glue_tree.proofs.Steps.{line_next, pushed, no_first, block_is}
use Rattle.glue_tree.proofs.spelling.+stmts.Goals as goal

pub push_lines-loop-line-preserved : goal.push_lines-loop-line-preserved
push_lines-loop-line-preserved t c =
    let i = c.loop-line.line-index in
    let done = ap feed_unless c.loop-line.invariant.first in
    record {
      words = pushed _ _ _ _ c.loop-line.invariant.words (c.in_ok-push_feed_unless.ensures.words ∙ ap (λ l. c.loop-line.words ++ l) done) c.in_ok-push_line.ensures.words
          ∙ ap (λ l. c.args.words.now ++ l) (sym (line_next c.args.body.now i _ c.loop-line-test.true c.line-item.is));
      first = no_first c.args.body.now i _ c.loop-line-test.true c.line-item.is;
    }

pub push_block-returns : goal.push_block-returns
push_block-returns t c = rw (block_is c.args.body.now) (grind (arith, common_steps))
