use Rattle.std.proofs.Common.{◌≡◌, ◌++◌, drop}
use Rattle.std.specs.List.{flat_map, filter_map}
use Rattle.wasm_core.specs.Parsing.{producers_in}
use Rattle.wasm_core.proofs.assemble.all_producers.Given as goal

abbrev pub invariant-loop-custom : goal.invariant-loop-custom
invariant-loop-custom l = l.fields ++ flat_map (λ fields. fields) (filter_map producers_in (drop l.custom-index l.customs)) ≡ flat_map (λ fields. fields) (filter_map producers_in l.customs)
