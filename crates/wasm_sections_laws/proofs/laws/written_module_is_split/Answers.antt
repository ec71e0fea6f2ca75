use Rattle.wasm_sections_laws.proofs.WrittenFrames.{written_frames, written_split}
use Rattle.wasm_sections_laws.proofs.laws.written_module_is_split.Goals as goal

pub returns-clause-frames : goal.returns-clause-frames
returns-clause-frames c = written_frames

pub returns-clause-split : goal.returns-clause-split
returns-clause-split c = written_split
