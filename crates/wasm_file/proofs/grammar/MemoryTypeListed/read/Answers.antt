use Rattle.wasm_file.specs.Entries.{memory_type}
use Rattle.wasm_file.proofs.grammar.MemoryTypeListed.read.Goals as goal

pub returns : goal.returns
unfolding memory_type
returns c = c.read_limits.ensures
