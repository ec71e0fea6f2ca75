use Rattle.std.proofs.Common.{arith}
use Rattle.std.proofs.lemmas.Grind.{common_steps}
use Rattle.wasm_core.specs.Edits.{with_export}
use Rattle.wasm_core.proofs.module.Module.add_export.Goals as goal

pub returns-clause-ok : goal.returns-clause-ok
unfolding with_export
returns-clause-ok c = grind (arith, common_steps)
