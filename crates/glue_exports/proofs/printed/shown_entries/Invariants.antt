use Rattle.std.proofs.Common.{◌≡◌, ◌++◌, filter}
use Rattle.glue_exports.specs.Printed.{is_shown}
use Rattle.glue_exports.proofs.printed.shown_entries.Given as goal

abbrev pub invariant-loop-path : goal.invariant-loop-path
invariant-loop-path l = l.entries.items ++ filter is_shown l.path-iterator ≡ filter is_shown l.definitions
