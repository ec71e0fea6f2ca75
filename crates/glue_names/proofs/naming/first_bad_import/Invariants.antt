use Rattle.std.proofs.Common.{◌≡◌, drop}
use Rattle.glue_faults.specs.First.{first_of}
use Rattle.glue_names.specs.Naming.{bad_import}
use Rattle.glue_names.proofs.naming.first_bad_import.Given as goal

abbrev pub invariant-loop-entry : goal.invariant-loop-entry
invariant-loop-entry l = first_of (bad_import l.omitted) (drop l.entry-index l.entries) ≡ first_of (bad_import l.omitted) l.entries
