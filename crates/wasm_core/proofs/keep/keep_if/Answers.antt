use Rattle.std.proofs.Common.{arith}
use Rattle.std.proofs.lemmas.Grind.{common_steps}
use Rattle.wasm_core.proofs.keep.keep_if.Goals as goal

pub returns-then-not-kept : goal.returns-then-not-kept
returns-then-not-kept g c = grind (arith, common_steps)
