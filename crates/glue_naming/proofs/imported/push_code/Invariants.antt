use Rattle.std.proofs.Common.{◌≡◌, ◌++◌, take}
use Rattle.std.specs.List.{flat_map}
use Rattle.glue_naming.specs.Imported.{called_name}
use Rattle.glue_naming.proofs.imported.push_code.Given as goal

abbrev pub invariant-loop-instruction : goal.invariant-loop-instruction
invariant-loop-instruction l = l.list ≡ l.initial.list ++ flat_map (called_name l.entries) (take l.instruction-index l.code)
