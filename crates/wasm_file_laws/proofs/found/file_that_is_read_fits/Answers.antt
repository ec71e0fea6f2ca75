use Rattle.wasm_file_laws.proofs.FileFits.{file_fits}
use Rattle.wasm_file_laws.proofs.found.file_that_is_read_fits.Goals as goal

pub returns : goal.returns
returns c = record { file = file_fits }
