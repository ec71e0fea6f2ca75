use Rattle.std.proofs.Common.{arith}
use Rattle.std.proofs.lemmas.Grind.{common_steps}
use Rattle.wasm_core.specs.Edits.{with_func}
use Rattle.wasm_core.proofs.module.Module.add_func.Goals as goal

pub returns-in-Some-clause-ok : goal.returns-in-Some-clause-ok
unfolding with_func
returns-in-Some-clause-ok c = grind (arith, common_steps)
