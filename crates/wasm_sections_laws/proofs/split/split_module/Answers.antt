use Rattle.std.proofs.Common.{◌≡◌, true, subst}
use Rattle.std.specs.List.{All}
use Rattle.std.specs.Str.{is_utf8}
use Rattle.wasm_file.specs.declared.entries.Custom.{Custom}
use Rattle.wasm_sections_laws.proofs.WrittenFrames.{not_memory, split_gives, split_takes}
use Rattle.wasm_sections_laws.proofs.split.split_module.Goals as goal

pub unreachable-requires : goal.unreachable-requires
unreachable-requires c = split_takes c.args.module.now c.args.url.now c.args.wasm.now c.in-Err-Parse.field-0 c.requires.written c.requires.short (subst (All (λ (x : Custom). is_utf8 x.name ≡ true)) c.customs.ensures c.names_are_utf8.ensures) (c.in-Err-Parse.ensures.err (not_memory c.in-Err-Parse.field-0 c.in-Err-Parse.field-0-0 c.in-Err-Parse.field-0-is))

pub returns-in-Ok : goal.returns-in-Ok
returns-in-Ok c = record { ok = split_gives c.args.module.now c.args.url.now c.args.wasm.now c.in-Ok.split.items c.requires.written c.requires.short (subst (All (λ (x : Custom). is_utf8 x.name ≡ true)) c.customs.ensures c.names_are_utf8.ensures) c.in-Ok.ensures.ok }
