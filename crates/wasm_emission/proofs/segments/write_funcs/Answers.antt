use Rattle.std.proofs.Common.{arith}
use Rattle.std.proofs.lemmas.Grind.{common_steps}
use Rattle.wasm_file.specs.Spelling.{func_id_bytes}
use Rattle.wasm_emission.proofs.segments.write_funcs.Goals as goal

pub loop-func-preserved : goal.loop-func-preserved
unfolding func_id_bytes
loop-func-preserved c = grind (arith, common_steps)
