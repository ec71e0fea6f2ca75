use Rattle.glue_lines.proofs.Grouping.{adds_next}
use Rattle.glue_lines.proofs.grouped.by_module.Goals as goal

pub loop-import-preserved : goal.loop-import-preserved
loop-import-preserved c =
    adds_next c.args.imports.now c.loop-import.import-index c.import-item.result c.loop-import.lines
    c.add_import.new.lines c.loop-import-test.true c.import-item.is c.loop-import.invariant
    c.in_ok-add_import.ensures.added
