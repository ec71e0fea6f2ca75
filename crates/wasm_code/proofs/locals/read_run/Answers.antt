use Rattle.wasm_code.proofs.RunSteps.{sum_is}
use Rattle.wasm_code.proofs.locals.read_run.Goals as goal

pub returns-clause-sum : goal.returns-clause-sum
returns-clause-sum c = sum_is c.args.total.now c.in_ok-count.count c.in-Some.sum c.in-Some.ensures
