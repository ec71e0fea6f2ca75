use Rattle.std.proofs.Common.{refl}
use Rattle.wasm_file.proofs.spelling.kind_byte.Goals as goal

pub returns-in-Memory : goal.returns-in-Memory
returns-in-Memory c = rw c.in-Memory.is refl
