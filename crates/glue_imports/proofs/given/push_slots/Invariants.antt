use Rattle.std.proofs.Common.{◌≡◌, ◌+◌, ◌++◌, drop}
use Rattle.glue_imports.specs.Given.{last_of, statements, texts_from}
use Rattle.glue_imports.proofs.given.push_slots.Given as goal

abbrev pub invariant-loop-slot : goal.invariant-loop-slot
invariant-loop-slot l =
    let rest = texts_from l.place (drop l.slot-index l.slots) in
    let all = texts_from 1028 l.slots in record {
      counted : l.place ≡ 1028 + l.slot-index;
      last : last_of l.last rest ≡ last_of l.fn.first all;
      statements : l.statements ++ statements l.last rest ≡ l.initial.statements ++ statements l.fn.first all;
    }
