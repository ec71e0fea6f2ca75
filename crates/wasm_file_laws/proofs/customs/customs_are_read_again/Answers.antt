use Rattle.wasm_file_laws.proofs.CustomsAgain.{names_again, producers_again}
use Rattle.wasm_file_laws.proofs.customs.customs_are_read_again.Goals as goal

pub returns-clause-names : goal.returns-clause-names
returns-clause-names c = names_again

pub returns-clause-producers : goal.returns-clause-producers
returns-clause-producers c = producers_again
