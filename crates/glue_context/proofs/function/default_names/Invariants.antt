use Rattle.glue_context.proofs.Common.{◌≡◌, ◌-◌, ◌++◌, default_names}
use Rattle.glue_context.proofs.function.default_names.Given as goal

abbrev pub invariant-loop-number : goal.invariant-loop-number
invariant-loop-number l = l.names ++ default_names (l.count - l.number-counter) l.number-counter ≡ default_names l.count 0
