use Rattle.wasm_file_laws.proofs.FileAgain.{file_again}
use Rattle.wasm_file_laws.proofs.file.file_is_read_again.Goals as goal

pub returns : goal.returns
returns c = file_again
