use Rattle.std.proofs.Common.{◌++◌, ap, ◌∙◌}
use Rattle.glue_tree.specs.Plainly.{plain_stmts}
use Rattle.glue_tree.specs.Spelling.{lines_words}
use Rattle.glue_tree.proofs.spelling.words_of.Goals as goal

pub returns : goal.returns
returns c = record { words = c.in_ok-push_lines.ensures.words ∙ ap (λ l. l ++ lines_words (plain_stmts c.args.body.now)) c.new-words.ensures }
