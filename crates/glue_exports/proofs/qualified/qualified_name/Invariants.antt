use Rattle.std.proofs.Common.{◌≡◌, ◌++◌, drop}
use Rattle.glue_shared.specs.Paths.{qualified_name}
use Rattle.glue_exports.proofs.qualified.qualified_name.Given as goal

abbrev pub invariant-loop-segment : goal.invariant-loop-segment
invariant-loop-segment l = l.joined ++ qualified_name (drop l.segment-index l.namespace) l.name ≡ qualified_name l.namespace l.name
