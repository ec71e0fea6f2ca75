use Rattle.glue_context.proofs.Common.{◌≡◌, take}
use Rattle.glue_context.specs.ImportedItems.{vendor_items}
use Rattle.glue_context.proofs.imported.vendor_constants.Given as goal

abbrev pub invariant-loop-import : goal.invariant-loop-import
invariant-loop-import l = l.items ≡ vendor_items (take l.import-index l.imports)
