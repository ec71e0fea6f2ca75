use Rattle.std.proofs.Common.{arith}
use Rattle.std.proofs.lemmas.Grind.{common_steps}
use Rattle.wasm_ops.specs.Spelling.{mem_arg_bytes}
use Rattle.wasm_ops.proofs.spelling.write_mem_arg.Goals as goal

pub returns : goal.returns
unfolding mem_arg_bytes
returns c = grind (arith, common_steps)
