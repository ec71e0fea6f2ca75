use Rattle.std.proofs.Common.{◌++◌, ◌∷◌, [], ap, ◌∙◌, append_assoc}
use Rattle.glue_tree.specs.FixedWords.{comma}
use Rattle.glue_words.specs.Words.{space}
use Rattle.glue_tree.proofs.spelling.push_comma.Goals as goal

pub returns : goal.returns
returns c = record {
  words = c.in_ok-push_gap.ensures.words ∙ ap (λ l. l ++ space ∷ []) c.in_ok-push.ensures.ok ∙ append_assoc c.args.words.now (comma ∷ []) (space ∷ []);
}
