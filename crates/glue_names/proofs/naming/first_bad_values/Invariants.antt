use Rattle.std.proofs.Common.{◌≡◌, drop}
use Rattle.glue_faults.specs.First.{first_of}
use Rattle.glue_names.specs.Naming.{bad_values}
use Rattle.glue_names.proofs.naming.first_bad_values.Given as goal

abbrev pub invariant-loop-texts : goal.invariant-loop-texts
invariant-loop-texts l = first_of bad_values (drop l.texts-index l.enums) ≡ first_of bad_values l.enums
