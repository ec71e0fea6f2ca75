use Rattle.std.proofs.Common.{◌≡◌, map, take}
use Rattle.glue_naming.specs.Wanted.{enum_key}
use Rattle.glue_naming.proofs.asked.enum_keys.Given as goal

abbrev pub invariant-loop-one : goal.invariant-loop-one
invariant-loop-one l = l.keys.items ≡ map enum_key (take l.one-index l.enums)
