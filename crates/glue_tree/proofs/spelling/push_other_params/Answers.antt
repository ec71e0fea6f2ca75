use Rattle.std.proofs.Common.{◌++◌, ap, sym, ◌∙◌}
use Rattle.glue_tree.proofs.Steps.{param_next, pushed}
use Rattle.glue_tree.proofs.spelling.push_other_params.Goals as goal

pub loop-name-preserved : goal.loop-name-preserved
loop-name-preserved c =
    pushed _ _ _ _ c.loop-name.invariant c.in_ok-push_comma.ensures.words c.in_ok-push_bound.ensures.words
    ∙ ap (λ l. c.args.words.now ++ l) (sym (param_next c.args.names.now c.loop-name.name-index _ c.loop-name-test.true c.name-item.is))
