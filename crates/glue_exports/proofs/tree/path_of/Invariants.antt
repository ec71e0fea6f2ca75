use Rattle.std.proofs.Common.{◌≡◌, take}
use Rattle.glue_exports.proofs.tree.path_of.Given as goal

abbrev pub invariant-loop-segment : goal.invariant-loop-segment
invariant-loop-segment l = l.path ≡ take l.segment-index l.fn.namespace
