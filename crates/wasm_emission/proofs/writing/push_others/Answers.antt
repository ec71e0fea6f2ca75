use Rattle.std.proofs.Common.{arith}
use Rattle.std.proofs.lemmas.Grind.{common_steps}
use Rattle.wasm_emission.proofs.writing.push_others.Goals as goal

pub loop-custom-preserved : goal.loop-custom-preserved
loop-custom-preserved c = grind (arith, common_steps)
