use Rattle.std.proofs.Common.{◌++◌, ◌∷◌, [], ap, ◌∙◌}
use Rattle.glue_words.specs.declared.word.Word.TheVariants.{LocalBind}
use Rattle.glue_tree.proofs.spelling.push_bound.Goals as goal

pub returns : goal.returns
returns c = record { words = c.in_ok-push.ensures.ok ∙ ap (λ name. c.args.words.now ++ LocalBind name ∷ []) c.in_ok-copy.ensures.equal }
