use Rattle.std.proofs.Common.{arith}
use Rattle.std.proofs.lemmas.Grind.{common_steps}
use Rattle.glue_json.proofs.adapters.by_id.Goals as goal

pub loop-id-init : goal.loop-id-init
loop-id-init c = grind (arith, common_steps)

pub loop-id-preserved : goal.loop-id-preserved
loop-id-preserved c = grind (arith, common_steps)

pub returns-clause-ok : goal.returns-clause-ok
returns-clause-ok c = grind (arith, common_steps)

pub returns-then-is_some-clause-failed : goal.returns-then-is_some-clause-failed
returns-then-is_some-clause-failed c = grind (arith, common_steps)
