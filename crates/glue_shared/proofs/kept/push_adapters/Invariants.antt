use Rattle.std.proofs.Common.{◌≡◌, ◌++◌}
use Rattle.std.specs.List.{flat_map}
use Rattle.glue_shared.specs.Roots.{adapter_items}
use Rattle.glue_shared.proofs.kept.push_adapters.Given as goal

abbrev pub invariant-loop-adapter : goal.invariant-loop-adapter
invariant-loop-adapter l = l.out.items ++ flat_map adapter_items l.adapter-iterator ≡ l.fn.out.items ++ flat_map adapter_items l.wit.adapters
