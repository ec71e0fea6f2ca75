use Rattle.std.proofs.Common.{refl}
use Rattle.wasm_reach.proofs.marks.set_at.Goals as goal

pub returns : goal.returns
returns c = refl
