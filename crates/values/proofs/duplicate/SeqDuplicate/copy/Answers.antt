use Rattle.std.proofs.Common.{[], ◌∷◌, ◌++◌, sym, ap₂, ◌∙◌}
use Rattle.std.proofs.lemmas.List.{take_all, take_more}
use Rattle.values.proofs.duplicate.SeqDuplicate.copy.Goals as goal

pub loop-item-preserved : goal.loop-item-preserved
loop-item-preserved g c =
    c.in_ok-push.ensures.items ∙ ap₂ (λ xs x. xs ++ x ∷ []) c.loop-item.invariant (c.in_ok-copy.ensures.equal ∙ c.item-item.is) ∙ sym (take_more _ _ _ c.loop-item-test.true)

pub returns : goal.returns
returns g c = record { equal = c.from_vec.ensures ∙ c.loop-item.invariant ∙ take_all _ _ c.loop-item-test.false ∙ c.as_slice-item-items.ensures }
