use Rattle.std.proofs.Common.{rules}
use Rattle.wasm_ops.proofs.operands.numbered_type.Goals as goal

pub returns-then-number-count : goal.returns-then-number-count
returns-then-number-count c = search rules
