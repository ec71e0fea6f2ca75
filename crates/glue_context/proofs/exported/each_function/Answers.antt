use Rattle.glue_context.proofs.Common.{take, map, sym, subst, ◌+◌, List, AllZip, Bor, AuxExport, AreFunctionItems}
use Rattle.glue_public.specs.Described.{FunctionItems}
use Rattle.glue_context.proofs.Lists.{declared_next}
use Rattle.glue_context.proofs.exported.each_function.Goals as goal

pub loop-export-preserved : goal.loop-export-preserved
loop-export-preserved g c =
    let are = AreFunctionItems c.args.basis.now.settings.now c.args.basis.now.names.now c.args.indexed.now in
    let exports = c.args.exports.now in
    let i = c.loop-export.export-index in
    subst (λ (functions : List FunctionItems). AllZip are (map (λ (e : Bor AuxExport). e.now) (take (i + 1) exports)) functions) (sym c.in_ok-push.ensures.ok)
    (declared_next are exports c.loop-export.functions i c.export-item.result c.in_ok-function_items.field-0 c.loop-export-test.true c.export-item.is
    c.loop-export.invariant c.in_ok-function_items.ensures.items)
