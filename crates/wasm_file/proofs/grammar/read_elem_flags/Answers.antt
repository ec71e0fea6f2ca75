use Rattle.std.proofs.Common.{arith}
use Rattle.std.proofs.lemmas.Grind.{common_steps}
use Rattle.wasm_file.proofs.grammar.read_elem_flags.Goals as goal

pub returns-then-not-flags : goal.returns-then-not-flags
returns-then-not-flags c = grind (arith, common_steps)
