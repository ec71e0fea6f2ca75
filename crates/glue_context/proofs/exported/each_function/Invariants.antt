use Rattle.glue_context.proofs.Common.{take, map, AllZip, Bor, AuxExport, AreFunctionItems}
use Rattle.glue_context.proofs.exported.each_function.Given as goal

abbrev pub invariant-loop-export : goal.invariant-loop-export
invariant-loop-export g l =
    AllZip (AreFunctionItems l.basis.settings.now l.basis.names.now l.indexed) (map (λ (e : Bor AuxExport). e.now) (take l.export-index l.exports)) l.functions
