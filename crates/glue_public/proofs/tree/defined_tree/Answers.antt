use Rattle.std.proofs.lemmas.Result.{err_from_is_err_and}
use Rattle.std.specs.Vec.Iter.{into_iter_items}
use Rattle.glue_public.proofs.Put.{refused}
use Rattle.glue_public.proofs.tree.defined_tree.Goals as goal

pub returns-in_err-define_export-clause-cause : goal.returns-in_err-define_export-clause-cause
returns-in_err-define_export-clause-cause c =
    let p = err_from_is_err_and c.from_residual.result c.from_residual.ensures.1 in
    rw (p.1, p.2)
    (refused (into_iter_items c.loop-one.one-iterator) (into_iter_items c.next.new.self) c.args.definitions c.in-Some.one c.loop-one.tree
    c.as_slice.result.now c.as_str.result.now c.in_err-define_export.field-0.0 c.in-Some.ensures.steps.0 c.as_slice.ensures c.as_str.ensures
    c.in_err-define_export.ensures.cause c.loop-one.invariant.3)
