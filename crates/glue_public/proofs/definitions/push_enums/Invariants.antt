use Rattle.std.proofs.Common.{◌≡◌, ◌++◌, map, take}
use Rattle.glue_public.specs.Described.{enum_definition}
use Rattle.glue_public.proofs.definitions.push_enums.Given as goal

abbrev pub invariant-loop-one : goal.invariant-loop-one
invariant-loop-one l = l.definitions ≡ l.initial.definitions ++ map (enum_definition l.names) (take l.one-index l.enums)
