use Rattle.std.proofs.Common.{◌≡◌}
use Rattle.glue_faults.specs.First.{first_of}
use Rattle.glue_check.specs.Missing.{adapter_lacks}
use Rattle.glue_check.proofs.missing.first_of_adapters.Given as goal

abbrev pub invariant-loop-id : goal.invariant-loop-id
invariant-loop-id l = first_of (adapter_lacks l.settings l.lowered) l.id-iterator ≡ first_of (adapter_lacks l.settings l.lowered) l.lowered.wit.adapters
