use Rattle.wasm_core_laws.proofs.ParsedFromBytes.{parsed_is_itself, parsed_again}
use Rattle.wasm_core_laws.proofs.parsed.parsed_module_is_read_as_itself.Goals as goal

pub returns-clause-itself : goal.returns-clause-itself
returns-clause-itself c = parsed_is_itself

pub returns-clause-written : goal.returns-clause-written
returns-clause-written c = parsed_again
