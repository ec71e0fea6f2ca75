use Rattle.std.proofs.Common.{◌≡◌, drop}
use Rattle.glue_faults.specs.First.{first_of}
use Rattle.glue_adapters.specs.Adapters.{unsupported_name}
use Rattle.glue_adapters.proofs.adapters.first_unsupported.Given as goal

abbrev pub invariant-loop-instruction : goal.invariant-loop-instruction
invariant-loop-instruction l = first_of unsupported_name (drop l.instruction-index l.code) ≡ first_of unsupported_name l.code
