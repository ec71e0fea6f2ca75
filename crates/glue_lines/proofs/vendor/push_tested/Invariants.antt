use Rattle.std.proofs.Common.{◌≡◌, ◌++◌, take}
use Rattle.std.specs.List.{flat_map}
use Rattle.glue_lines.specs.Vendor.{tested_words}
use Rattle.glue_lines.proofs.vendor.push_tested.Given as goal

abbrev pub invariant-loop-name : goal.invariant-loop-name
invariant-loop-name l = l.words ≡ l.initial.words ++ flat_map tested_words (take l.name-index l.names)
