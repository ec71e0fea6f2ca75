use Rattle.std.proofs.Common.{◌≡◌, ◌++◌, take}
use Rattle.std.specs.Prelude.{filter_map}
use Rattle.glue_naming.specs.Imported.{import_wanted}
use Rattle.glue_naming.proofs.imported.push_each.Given as goal

abbrev pub invariant-loop-name : goal.invariant-loop-name
invariant-loop-name l = l.list ≡ l.initial.list ++ filter_map (import_wanted l.omitted l.target) (take l.name-index l.imports)
