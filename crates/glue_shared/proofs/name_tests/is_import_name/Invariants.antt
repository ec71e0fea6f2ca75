use Rattle.std.proofs.Common.{◌≡◌}
use Rattle.glue_shared.specs.Names.{is_one_of, import_names}
use Rattle.glue_shared.proofs.name_tests.is_import_name.Given as goal

abbrev pub invariant-loop-number : goal.invariant-loop-number
invariant-loop-number l = is_one_of (import_names l.last) l.name ≡ is_one_of (import_names l.number) l.name

abbrev pub decreases-loop-number : goal.decreases-loop-number
decreases-loop-number l = l.number
