use Rattle.glue_context.proofs.Common.{List, [], ◌∷◌, ◌+◌, ◌++◌, ap, sym, ◌∙◌, Item, foreign_lines}
use Rattle.std.proofs.Common.{drop, append_assoc}
use Rattle.glue_lines.specs.Lines.{foreign_line}
use Rattle.glue_lines.specs.declared.form.LineForm.TheVariants.{Es}
use Rattle.glue_context.proofs.Lists.{lines_next}
use Rattle.glue_context.proofs.foreign.foreign_lines.Goals as goal

pub loop-place-preserved : goal.loop-place-preserved
loop-place-preserved c =
    let modules = c.args.modules.now in
    let i = c.loop-place.place in
    let path = c.index-modules-place.result in
    let rest = foreign_lines (i + 1 + 1) (drop (i + 1) modules) in
    ap (λ (items : List Item). items ++ rest)
    (c.in_ok-push.ensures.ok ∙ ap (λ (item : Item). c.loop-place.items ++ item ∷ [])
    (c.in_ok-foreign_line.ensures.item ∙ ap (foreign_line Es (i + 1)) c.as_str.ensures))
    ∙ append_assoc c.loop-place.items (foreign_line Es (i + 1) path ∷ []) rest
    ∙ ap (λ (more : List Item). c.loop-place.items ++ more) (sym (lines_next modules i (i + 1) path c.loop-place-test.true c.index-modules-place.is))
    ∙ c.loop-place.invariant
