use Rattle.std.proofs.Common.{ℕ, List, Bool}
use Rattle.glue_shared.specs.declared.import.JsImport.{JsImport}
use Rattle.glue_shared.specs.Names.{described_hosts}
use Rattle.glue_names.proofs.TakenNames.{flat_next}
use Rattle.glue_names.proofs.taken.with_reexports.Goals as goal

pub loop-reexport-preserved : goal.loop-reexport-preserved
loop-reexport-preserved g c =
    flat_next (λ (r : List ℕ × JsImport × Bool). described_hosts c.args.omitted r.1.name) c.args.reexports.now c.loop-reexport.reexport-index c.reexport-item.result
    _ _ _ c.loop-reexport-test.true c.reexport-item.is c.in_ok-more.ensures.bound c.loop-reexport.invariant
