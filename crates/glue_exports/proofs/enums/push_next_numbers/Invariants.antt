use Rattle.std.proofs.Common.{◌≡◌, ◌++◌, take}
use Rattle.std.specs.List.{flat_map}
use Rattle.glue_exports.specs.Enums.{next_number}
use Rattle.glue_exports.proofs.enums.push_next_numbers.Given as goal

abbrev pub invariant-loop-variant : goal.invariant-loop-variant
invariant-loop-variant l = l.text ≡ l.initial.text ++ flat_map next_number (take l.variant-index l.variants)
