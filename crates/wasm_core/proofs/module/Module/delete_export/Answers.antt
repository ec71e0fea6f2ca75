use Rattle.std.proofs.Common.{arith}
use Rattle.std.proofs.lemmas.Grind.{common_steps}
use Rattle.wasm_core.specs.Edits.{without_export}
use Rattle.wasm_core.proofs.module.Module.delete_export.Goals as goal

pub returns : goal.returns
unfolding without_export
returns c = grind (arith, common_steps)
