use Rattle.std.proofs.Common.{◌≡◌, ◌++◌, take}
use Rattle.glue_names.specs.Omitted.{omitted_names}
use Rattle.glue_names.proofs.omitted.push_omitted_names.Given as goal

abbrev pub invariant-loop-import : goal.invariant-loop-import
invariant-loop-import l = l.list ≡ l.initial.list ++ omitted_names l.omitted (take l.import-index l.imports)
