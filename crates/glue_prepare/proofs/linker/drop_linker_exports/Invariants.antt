use Rattle.std.proofs.Common.{◌≡◌}
use Rattle.glue_prepare.proofs.Dropped.{dropped_before}
use Rattle.glue_prepare.proofs.linker.drop_linker_exports.Given as goal

abbrev pub invariant-loop-place : goal.invariant-loop-place
invariant-loop-place l = l.«module» ≡ dropped_before l.place l.fn.«module»
