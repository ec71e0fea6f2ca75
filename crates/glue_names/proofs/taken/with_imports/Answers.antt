use Rattle.std.proofs.Common.{ℕ}
use Rattle.glue_shared.specs.declared.import.AuxImport.{AuxImport}
use Rattle.glue_names.specs.Taken.{brought}
use Rattle.glue_names.proofs.TakenNames.{flat_next}
use Rattle.glue_names.proofs.taken.with_imports.Goals as goal

pub loop-import-preserved : goal.loop-import-preserved
loop-import-preserved g c =
    flat_next (λ (i : ℕ × AuxImport). brought c.args.omitted i.1) c.args.imports.now c.loop-import.import-index c.import-item.result
    _ _ _ c.loop-import-test.true c.import-item.is c.in_ok-more.ensures.bound c.loop-import.invariant
