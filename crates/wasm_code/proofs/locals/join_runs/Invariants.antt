use Rattle.std.proofs.Common.{◌≡◌, ◌++◌, drop}
use Rattle.wasm_code.specs.Locals.{joined_runs, joined_behind}
use Rattle.wasm_code.proofs.locals.join_runs.Given as goal

abbrev pub invariant-loop-run : goal.invariant-loop-run
invariant-loop-run l = l.done ++ joined_behind l.last (drop l.run-index l.runs) ≡ joined_runs l.runs
