use Rattle.std.proofs.Common.{◌≡◌, ◌++◌, take}
use Rattle.std.specs.List.{flat_map}
use Rattle.printed_adapters.specs.Printed.{code_by, enum_named}
use Rattle.printed_adapters.proofs.enums.with_closures.Given as goal

abbrev pub invariant-loop-id : goal.invariant-loop-id
invariant-loop-id l = l.more ≡ l.fn.names ++ flat_map enum_named (flat_map (code_by l.lowered) (take l.id-index l.ids))
