use Rattle.std.proofs.Common.{◌≡◌, drop}
use Rattle.glue_faults.specs.First.{first_of}
use Rattle.glue_check.specs.Missing.{entry_lacks}
use Rattle.glue_check.proofs.missing.first_lacked.Given as goal

abbrev pub invariant-loop-entry : goal.invariant-loop-entry
invariant-loop-entry l =
    first_of (entry_lacks l.settings l.lowered) (drop l.entry-index l.lowered.aux.imports) ≡ first_of (entry_lacks l.settings l.lowered) l.lowered.aux.imports
