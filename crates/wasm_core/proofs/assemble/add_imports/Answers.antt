use Rattle.std.proofs.Common.{arith}
use Rattle.std.proofs.lemmas.Grind.{common_steps}
use Rattle.wasm_core.specs.Parsing.{imports_behind}
use Rattle.wasm_core.proofs.assemble.add_imports.Goals as goal

pub loop-import-preserved : goal.loop-import-preserved
unfolding imports_behind
loop-import-preserved c = grind (arith, common_steps)
