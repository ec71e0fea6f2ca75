use Rattle.wasm_bytes.proofs.ReadAgain.{number32_again, number64_again, signed32_again, signed33_again, signed64_again}
use Rattle.wasm_bytes.proofs.laws.numbers_are_read_again.Goals as goal

pub returns-clause-unsigned32 : goal.returns-clause-unsigned32
returns-clause-unsigned32 c = number32_again

pub returns-clause-unsigned64 : goal.returns-clause-unsigned64
returns-clause-unsigned64 c = number64_again

pub returns-clause-signed32 : goal.returns-clause-signed32
returns-clause-signed32 c = signed32_again

pub returns-clause-signed33 : goal.returns-clause-signed33
returns-clause-signed33 c = signed33_again

pub returns-clause-signed64 : goal.returns-clause-signed64
returns-clause-signed64 c = signed64_again
