use Rattle.wasm_core_laws.proofs.Numbers.{number_again, number_never, number_below, in_order_counted}
use Rattle.wasm_core_laws.proofs.renumbering.entries_are_renumbered.Goals as goal

pub returns-clause-again : goal.returns-clause-again
returns-clause-again g c = number_again

pub returns-clause-never : goal.returns-clause-never
returns-clause-never g c = number_never

pub returns-clause-below : goal.returns-clause-below
returns-clause-below g c = number_below

pub returns-clause-counted : goal.returns-clause-counted
returns-clause-counted g c = in_order_counted
