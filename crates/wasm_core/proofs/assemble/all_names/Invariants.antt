use Rattle.std.proofs.Common.{◌≡◌, drop, fold}
use Rattle.std.specs.List.{filter_map}
use Rattle.wasm_core.specs.Parsing.{names_in, merged, no_names}
use Rattle.wasm_core.proofs.assemble.all_names.Given as goal

abbrev pub invariant-loop-custom : goal.invariant-loop-custom
invariant-loop-custom l = fold merged l.names (filter_map (names_in l.funcs) (drop l.custom-index l.customs)) ≡ fold merged no_names (filter_map (names_in l.funcs) l.customs)
