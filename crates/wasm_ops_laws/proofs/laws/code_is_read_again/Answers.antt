use Rattle.wasm_ops_laws.proofs.OpAgain.{op_again}
use Rattle.wasm_ops_laws.proofs.CodeAgain.{expression_again, code_again}
use Rattle.wasm_ops_laws.proofs.InitialAgain.{initial_again}
use Rattle.wasm_ops_laws.proofs.laws.code_is_read_again.Goals as goal

pub returns-clause-op : goal.returns-clause-op
returns-clause-op c = op_again

pub returns-clause-expression : goal.returns-clause-expression
returns-clause-expression c = expression_again

pub returns-clause-body : goal.returns-clause-body
returns-clause-body c = code_again

pub returns-clause-initial : goal.returns-clause-initial
returns-clause-initial c = initial_again
