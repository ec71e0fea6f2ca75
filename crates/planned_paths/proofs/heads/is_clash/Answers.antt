use Rattle.std.proofs.Common.{◌||◌, sym, ap, ◌∙◌}
use Rattle.planned_paths.proofs.Clashes.{clash_is}
use Rattle.planned_paths.proofs.heads.is_clash.Goals as goal

pub returns-then-is_head : goal.returns-then-is_head
returns-then-is_head c =
    c.if-is_head.true ∙ sym (ap (λ x. x || c.has_one-has_head.result) c.if-is_head.true)
    ∙ clash_is _ _ _ _ _ c.has_one-has_head.result c.requires.own c.requires.heads c.has-is_head.ensures.test c.has_one-has_head.ensures

pub returns-else-is_head : goal.returns-else-is_head
returns-else-is_head c =
    sym (ap (λ x. x || c.has_one-has_head.result) c.if-is_head.false)
    ∙ clash_is _ _ _ _ _ c.has_one-has_head.result c.requires.own c.requires.heads c.has-is_head.ensures.test c.has_one-has_head.ensures
