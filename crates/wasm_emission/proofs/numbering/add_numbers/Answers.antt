use Rattle.std.proofs.Common.{arith}
use Rattle.std.proofs.lemmas.Grind.{common_steps}
use Rattle.wasm_emission.specs.Renumbering.{numbers}
use Rattle.wasm_emission.proofs.numbering.add_numbers.Goals as goal

pub loop-entry-preserved : goal.loop-entry-preserved
loop-entry-preserved g c = grind (arith, common_steps)

pub returns : goal.returns
unfolding numbers
returns g c = grind (arith, common_steps)
