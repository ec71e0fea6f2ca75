use Rattle.std.proofs.Common.{◌≡◌, ◌++◌, take}
use Rattle.std.specs.List.{flat_map}
use Rattle.printed_adapters.specs.Printed.{enum_named, export_code}
use Rattle.printed_adapters.proofs.enums.with_exports.Given as goal

abbrev pub invariant-loop-export : goal.invariant-loop-export
invariant-loop-export l = l.more ≡ l.fn.names ++ flat_map enum_named (flat_map (export_code l.lowered) (take l.export-index l.exports))
