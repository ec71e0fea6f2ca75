use Rattle.std.proofs.Common.{take}
use Rattle.glue_exports.specs.Kept.{AreNames}
use Rattle.glue_exports.proofs.hosts.name_set.Given as goal

abbrev pub invariant-loop-name : goal.invariant-loop-name
invariant-loop-name l = AreNames l.set (take l.name-index l.names)
