use Rattle.std.proofs.Common.{◌≡◌, ◌++◌, take}
use Rattle.std.specs.List.{flat_map}
use Rattle.glue_exports.specs.Enums.{variant_words}
use Rattle.glue_exports.proofs.enums.push_variants.Given as goal

abbrev pub invariant-loop-variant : goal.invariant-loop-variant
invariant-loop-variant l = l.words ≡ l.initial.words ++ flat_map variant_words (take l.variant-index l.variants)
