use Rattle.std.proofs.Common.{◌≡◌, true, take}
use Rattle.std.specs.List.{All}
use Rattle.std.specs.Str.{is_utf8}
use Rattle.wasm_file.specs.declared.entries.Custom.{Custom}
use Rattle.wasm_sections_laws.proofs.split.names_are_utf8.Given as goal

abbrev pub invariant-loop-custom : goal.invariant-loop-custom
invariant-loop-custom l = All (λ (c : Custom). is_utf8 c.name ≡ true) (take l.custom-index l.customs)
