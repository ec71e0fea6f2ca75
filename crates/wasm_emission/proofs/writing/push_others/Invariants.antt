use Rattle.std.proofs.Common.{◌≡◌, ◌++◌, take, map}
use Rattle.wasm_file.specs.Spelling.{custom_section}
use Rattle.wasm_emission.proofs.writing.push_others.Given as goal

abbrev pub invariant-loop-custom : goal.invariant-loop-custom
invariant-loop-custom l = l.out ≡ l.fn.out ++ map custom_section (take l.custom-index l.customs)
