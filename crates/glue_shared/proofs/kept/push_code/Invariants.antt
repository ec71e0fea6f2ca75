use Rattle.std.proofs.Common.{◌≡◌, ◌++◌, take}
use Rattle.std.specs.List.{flat_map}
use Rattle.glue_shared.specs.Roots.{instruction_items}
use Rattle.glue_shared.proofs.kept.push_code.Given as goal

abbrev pub invariant-loop-instruction : goal.invariant-loop-instruction
invariant-loop-instruction l = l.out.items ≡ l.fn.out.items ++ flat_map instruction_items (take l.instruction-index l.code)
