use Rattle.std.proofs.Common.{◌≡◌}
use Rattle.glue_faults.specs.First.{first_of}
use Rattle.glue_adapters.specs.Adapters.{unsupported_in, unsupported}
use Rattle.glue_adapters.proofs.adapters.unsupported.Given as goal

abbrev pub invariant-loop-id : goal.invariant-loop-id
invariant-loop-id l = first_of unsupported_in l.id-iterator ≡ unsupported l.wit
