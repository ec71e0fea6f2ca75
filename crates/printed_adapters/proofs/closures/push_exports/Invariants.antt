use Rattle.std.proofs.Common.{◌≡◌, ◌++◌, take}
use Rattle.std.specs.List.{flat_map}
use Rattle.printed_adapters.specs.Printed.{export_code}
use Rattle.printed_adapters.proofs.Making.{made_places}
use Rattle.printed_adapters.proofs.closures.push_exports.Given as goal

abbrev pub invariant-loop-export : goal.invariant-loop-export
invariant-loop-export l = l.out.items ≡ l.initial.out.items ++ made_places l.places (flat_map (export_code l.lowered) (take l.export-index l.exports))
