use Rattle.wasm_ops_laws.proofs.OpFinds.{op_found}
use Rattle.wasm_ops_laws.proofs.CodeFinds.{expression_found, code_found}
use Rattle.wasm_ops_laws.proofs.InitialFinds.{initial_found}
use Rattle.wasm_ops_laws.proofs.laws.what_is_read_fits.Goals as goal

pub returns-clause-op : goal.returns-clause-op
returns-clause-op c = op_found

pub returns-clause-expression : goal.returns-clause-expression
returns-clause-expression c = expression_found

pub returns-clause-body : goal.returns-clause-body
returns-clause-body c = code_found

pub returns-clause-initial : goal.returns-clause-initial
returns-clause-initial c = initial_found
