use Rattle.std.proofs.Common.{refl}
use Rattle.wasm_ops.proofs.shapes.initial_shape.Goals as goal

pub returns-in-253 : goal.returns-in-253
returns-in-253 c = rw c.in-253.is refl
