use Rattle.wasm_core_laws.proofs.ParsedFromBytes.{parsed_is_module, parsed_is_small}
use Rattle.wasm_core_laws.proofs.parsed.parsed_module_is_one.Goals as goal

pub returns-clause-module : goal.returns-clause-module
returns-clause-module c = parsed_is_module

pub returns-clause-few : goal.returns-clause-few
returns-clause-few c = parsed_is_small
