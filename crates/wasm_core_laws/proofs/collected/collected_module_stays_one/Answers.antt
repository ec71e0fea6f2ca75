use Rattle.wasm_core_laws.proofs.CollectedIsModule.{collected_is_module}
use Rattle.wasm_core_laws.proofs.collected.collected_module_stays_one.Goals as goal

pub returns : goal.returns
returns c = collected_is_module
