use Rattle.std.proofs.Common.{rules}
use Rattle.wasm_ops.proofs.shapes.shape_within.Goals as goal

pub returns : goal.returns
returns c = search rules
