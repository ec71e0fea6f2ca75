use Rattle.std.proofs.Common.{◌≡◌, ◌++◌, take}
use Rattle.glue_tree.specs.Plainly.{plain_stmts}
use Rattle.glue_tree.specs.Spelling.{is_none, lines_words}
use Rattle.glue_tree.proofs.spelling.+stmts.Given as goal

abbrev pub invariant-push_lines-loop-line : goal.invariant-push_lines-loop-line
invariant-push_lines-loop-line l = record {
  words : l.words ≡ l.initial.words ++ lines_words (plain_stmts (take l.line-index l.body));
  first : l.is_first ≡ is_none (take l.line-index l.body);
}
