use Rattle.wasm_collect.proofs.Kept.{collected_is_one}
use Rattle.wasm_collect.proofs.collecting.collected_module_is_one.Goals as goal

pub returns : goal.returns
returns c = collected_is_one
