use Rattle.std.proofs.Common.{◌≡◌, ◌++◌, take}
use Rattle.std.specs.List.{flat_map}
use Rattle.glue_names.specs.Taken.{brought}
use Rattle.cli_support.proofs.hosts.push_imported.Given as goal

abbrev pub invariant-loop-import : goal.invariant-loop-import
invariant-loop-import l = l.out.items ≡ l.fn.out.items ++ flat_map (λ i. brought l.omitted i.1) (take l.import-index l.imports)
