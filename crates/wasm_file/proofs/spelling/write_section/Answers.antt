use Rattle.std.proofs.Common.{rules, append_assoc}
use Rattle.std.proofs.lemmas.Result.{IfOk-equal}
use Rattle.wasm_file.specs.Spelling.{section_bytes}
use Rattle.wasm_file.proofs.spelling.write_section.Goals as goal

pub returns : goal.returns
unfolding section_bytes
returns c = search (rules, IfOk-equal, append_assoc)
