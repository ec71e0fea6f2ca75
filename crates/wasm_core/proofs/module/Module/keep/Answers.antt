use Rattle.std.proofs.Common.{arith}
use Rattle.std.proofs.lemmas.Grind.{common_steps}
use Rattle.wasm_core.specs.Remainder.{remainder}
use Rattle.wasm_core.proofs.module.Module.keep.Goals as goal

pub returns : goal.returns
unfolding remainder
returns c = grind (arith, common_steps)
