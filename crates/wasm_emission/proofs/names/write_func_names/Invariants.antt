use Rattle.std.proofs.Common.{◌≡◌, ◌≤◌, ◌+◌, ◌++◌, drop, length}
use Rattle.std.specs.List.{flat_map, filter_map, enumerate_from}
use Rattle.wasm_file.specs.Spelling.{func_name_bytes}
use Rattle.wasm_emission.specs.Emission.{name_at}
use Rattle.wasm_emission.proofs.names.write_func_names.Given as goal

abbrev pub invariant-loop-place : goal.invariant-loop-place
invariant-loop-place l = record {
  count : l.count + length (filter_map (name_at l.numbers l.imported) (enumerate_from l.place (drop l.place l.funcs))) ≡ length (filter_map (name_at l.numbers l.imported) (enumerate_from 0 l.funcs));
  few : l.count ≤ l.place;
  bytes : l.out.items ++ flat_map func_name_bytes (filter_map (name_at l.numbers l.imported) (enumerate_from l.place (drop l.place l.funcs))) ≡ l.fn.out.items ++ flat_map func_name_bytes (filter_map (name_at l.numbers l.imported) (enumerate_from 0 l.funcs));
}
