use Rattle.std.proofs.Common.{arith}
use Rattle.std.proofs.lemmas.Grind.{common_steps}
use Rattle.wasm_core.specs.Parsing.{own_funcs}
use Rattle.wasm_core.proofs.assemble.join_bodies.Goals as goal

pub loop-body-preserved : goal.loop-body-preserved
unfolding own_funcs
loop-body-preserved c = grind (arith, common_steps)
