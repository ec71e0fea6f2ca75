use Rattle.wasm_file_laws.proofs.CustomsFit.{names_fit, producers_fit}
use Rattle.wasm_file_laws.proofs.found.customs_that_are_read_fit.Goals as goal

pub returns-clause-names : goal.returns-clause-names
returns-clause-names c = names_fit

pub returns-clause-producers : goal.returns-clause-producers
returns-clause-producers c = producers_fit
