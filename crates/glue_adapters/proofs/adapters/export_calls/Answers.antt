use Rattle.std.proofs.Common.{arith}
use Rattle.std.proofs.lemmas.Grind.{common_steps}
use Rattle.std.proofs.lemmas.List.Sums.{count_by_more_yes, count_by_more_no}
use Rattle.glue_adapters.proofs.adapters.export_calls.Goals as goal

pub loop-instruction-preserved : goal.loop-instruction-preserved
loop-instruction-preserved c = grind (arith, count_by_more_yes, count_by_more_no)

pub returns : goal.returns
returns c = grind (arith, common_steps)
