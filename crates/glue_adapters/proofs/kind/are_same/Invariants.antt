use Rattle.std.proofs.Common.{◌≡◌, length}
use Rattle.glue_adapters.specs.Stack.{same_kinds}
use Rattle.glue_adapters.proofs.kind.are_same.Given as goal

abbrev pub decreases-comparing : goal.decreases-comparing
decreases-comparing l = length l.left

abbrev pub invariant-comparing : goal.invariant-comparing
invariant-comparing l = same_kinds l.left l.right ≡ same_kinds l.a l.b
