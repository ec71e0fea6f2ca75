use Rattle.wasm_core_laws.proofs.ModuleAgain.{module_again}
use Rattle.wasm_core_laws.proofs.laws.module_is_read_again.Goals as goal

pub returns : goal.returns
returns c = record { «module» = module_again }
