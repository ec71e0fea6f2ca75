use Rattle.std.proofs.lemmas.Result.{IfOk-weaker}
use Rattle.glue_check.proofs.BuiltForm.{exports_built}
use Rattle.glue_naming.proofs.Functions.{all_named}
use Rattle.glue_naming.proofs.naming.draw_names.Goals as goal

pub returns-clause-named : goal.returns-clause-named
returns-clause-named g c =
    let checked = c.args.checked.now in
    let l = checked.lowered in
    IfOk-weaker c.names_of.result _ _
    (λ m n. all_named checked.settings l m n l.aux.exports (λ e i. (i, exports_built checked.files checked.settings l checked.built e i)))
    (rw (c.settings.ensures, c.lowered.ensures) at c.names_of.ensures.names)
