use Rattle.std.proofs.Common.{◌≡◌, ◌++◌, take}
use Rattle.std.specs.List.{flat_map}
use Rattle.wasm_code.specs.Spelling.{run_bytes}
use Rattle.wasm_code.proofs.spelling.write_each_run.Given as goal

abbrev pub invariant-loop-run : goal.invariant-loop-run
invariant-loop-run l = l.out.items ≡ l.fn.out.items ++ flat_map run_bytes (take l.run-index l.runs)
