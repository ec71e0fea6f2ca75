use Rattle.std.proofs.Common.{◌≡◌, take}
use Rattle.std.specs.List.{count_by}
use Rattle.glue_adapters.specs.Adapters.{is_export_call}
use Rattle.glue_adapters.proofs.adapters.export_calls.Given as goal

abbrev pub invariant-loop-instruction : goal.invariant-loop-instruction
invariant-loop-instruction l = l.count ≡ count_by is_export_call (take l.instruction-index l.code)
