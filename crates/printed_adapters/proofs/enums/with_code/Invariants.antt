use Rattle.std.proofs.Common.{◌≡◌, ◌++◌, take}
use Rattle.std.specs.List.{flat_map}
use Rattle.printed_adapters.specs.Printed.{enum_named}
use Rattle.printed_adapters.proofs.enums.with_code.Given as goal

abbrev pub invariant-loop-instruction : goal.invariant-loop-instruction
invariant-loop-instruction l = l.more ≡ l.fn.names ++ flat_map enum_named (take l.instruction-index l.code)
