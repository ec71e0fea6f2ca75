use Rattle.wasm_core_laws.proofs.FiledFits.{filed_fits}
use Rattle.wasm_core_laws.proofs.filed.filed_module_fits.Goals as goal

pub returns : goal.returns
returns c = filed_fits
