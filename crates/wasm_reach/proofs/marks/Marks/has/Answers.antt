use Rattle.std.proofs.Common.{arith}
use Rattle.std.proofs.lemmas.Grind.{common_steps}
use Rattle.wasm_reach.proofs.marks.Marks.has.Goals as goal

pub returns-in-Elem : goal.returns-in-Elem
returns-in-Elem c = grind (arith, common_steps)
