use Rattle.std.proofs.Common.{◌≡◌, ◌++◌, map, take}
use Rattle.std.specs.List.{flat_map}
use Rattle.wasm_file.specs.Spelling.{func_id_bytes}
use Rattle.wasm_emission.specs.Emission.{file_func}
use Rattle.wasm_emission.proofs.segments.write_funcs.Given as goal

abbrev pub invariant-loop-func : goal.invariant-loop-func
invariant-loop-func l = l.out.items ≡ l.fn.out.items ++ flat_map func_id_bytes (map (file_func l.numbers) (take l.func-index l.funcs))
