use Rattle.std.proofs.Common.{◌≡◌, ◌++◌, take}
use Rattle.std.specs.List.{flat_map}
use Rattle.taken_items.specs.Asked.{instruction_asks}
use Rattle.taken_items.proofs.asked.push_code.Given as goal

abbrev pub invariant-loop-instruction : goal.invariant-loop-instruction
invariant-loop-instruction l =
    l.asked ≡ l.initial.asked ++ flat_map (instruction_asks l.settings l.indexed) (take l.instruction-index l.code)
