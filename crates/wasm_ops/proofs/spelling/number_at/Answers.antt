use Rattle.std.proofs.Common.{rules}
use Rattle.wasm_ops.proofs.spelling.number_at.Goals as goal

pub returns-in-Some : goal.returns-in-Some
returns-in-Some c = search rules
