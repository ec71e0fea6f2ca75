use Rattle.wasm_core_laws.proofs.NamesAgain.{names_fit, funcs_named_again}
use Rattle.wasm_core_laws.proofs.CustomsAgain.{sections_short, names_again, producers_again, customs_again}
use Rattle.wasm_core_laws.proofs.customs.customs_again.Goals as goal

pub returns-clause-fit : goal.returns-clause-fit
returns-clause-fit c = names_fit

pub returns-clause-short : goal.returns-clause-short
returns-clause-short c = sections_short

pub returns-clause-names : goal.returns-clause-names
returns-clause-names c = names_again

pub returns-clause-funcs : goal.returns-clause-funcs
returns-clause-funcs c = funcs_named_again

pub returns-clause-producers : goal.returns-clause-producers
returns-clause-producers c = producers_again

pub returns-clause-kept : goal.returns-clause-kept
returns-clause-kept c = customs_again
