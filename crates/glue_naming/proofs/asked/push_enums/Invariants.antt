use Rattle.std.proofs.Common.{◌≡◌, ◌++◌, map, take}
use Rattle.glue_naming.specs.Wanted.{enum_wanted}
use Rattle.glue_naming.proofs.asked.push_enums.Given as goal

abbrev pub invariant-loop-key : goal.invariant-loop-key
invariant-loop-key l = l.list ≡ l.initial.list ++ map enum_wanted (take l.key-index l.keys)
