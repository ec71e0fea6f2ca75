use Rattle.wasm_core_laws.proofs.ModuleAssembled.{module_assembled}
use Rattle.wasm_core_laws.proofs.assembled.assembled_again.Goals as goal

pub returns : goal.returns
returns c = record { «module» = module_assembled }
