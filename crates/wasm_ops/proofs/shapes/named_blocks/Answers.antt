use Rattle.std.proofs.Common.{refl}
use Rattle.wasm_ops.proofs.shapes.named_blocks.Goals as goal

pub returns-then-code-eq24 : goal.returns-then-code-eq24
returns-then-code-eq24 c = rw (c.if-code-eq24.true, c.saturating_sub.ensures) refl
