use Rattle.std.proofs.Common.{◌≡◌, take}
use Rattle.glue_exports.specs.Printed.{declared_below}
use Rattle.glue_exports.proofs.top.declared_below.Given as goal

abbrev pub invariant-loop-entry : goal.invariant-loop-entry
invariant-loop-entry l = l.items ≡ declared_below (take l.entry-index l.below)
