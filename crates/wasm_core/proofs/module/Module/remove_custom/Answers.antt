use Rattle.std.proofs.Common.{arith}
use Rattle.std.proofs.lemmas.Grind.{common_steps}
use Rattle.wasm_core.specs.Edits.{without_custom}
use Rattle.wasm_core.proofs.module.Module.remove_custom.Goals as goal

pub returns-clause-removed : goal.returns-clause-removed
unfolding without_custom
returns-clause-removed c = grind (arith, common_steps)
