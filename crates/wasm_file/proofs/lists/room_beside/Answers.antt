use Rattle.std.proofs.Common.{arith}
use Rattle.wasm_file.proofs.lists.room_beside.Goals as goal

pub returns : goal.returns
returns c = omega arith
