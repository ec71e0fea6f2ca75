use Rattle.std.proofs.Common.{refl}
use Rattle.wasm_ops.specs.Operands.{mem_arg}
use Rattle.wasm_ops.proofs.operands.read_mem_arg.Goals as goal

pub returns-then-names_memory : goal.returns-then-names_memory
unfolding mem_arg
returns-then-names_memory c = rw (c.in_ok-field.ensures, ← c.if-names_memory.ensures, c.in_ok-memory.ensures, c.in_ok-offset.ensures.value) refl
