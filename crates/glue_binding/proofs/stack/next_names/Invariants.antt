use Rattle.std.proofs.Common.{◌≡◌, ◌-◌, ◌++◌}
use Rattle.glue_steps.specs.Stack.{without}
use Rattle.glue_binding.specs.Spelling.{next_names}
use Rattle.glue_binding.specs.Body.{newest_first}
use Rattle.glue_binding.proofs.stack.next_names.Given as goal

abbrev pub invariant-loop : goal.invariant-loop
invariant-loop l = record {
  names : l.names ++ next_names (l.count - l.counter) (newest_first l.coming) ≡ next_names l.count (newest_first l.initial.coming);
  left : without (l.count - l.counter) (newest_first l.coming) ≡ without l.count (newest_first l.initial.coming);
}
