use Rattle.std.proofs.Common.{◌≡◌, true, subst}
use Rattle.std.specs.List.{All}
use Rattle.std.specs.Str.{is_utf8}
use Rattle.std.proofs.lemmas.List.{take_all}
use Rattle.std.proofs.lemmas.List.Elements.{All-more}
use Rattle.wasm_file.specs.declared.entries.Custom.{Custom}
use Rattle.wasm_sections_laws.proofs.split.names_are_utf8.Goals as goal

pub loop-custom-preserved : goal.loop-custom-preserved
loop-custom-preserved c = All-more (λ (x : Custom). is_utf8 x.name ≡ true) c.args.customs.now c.loop-custom.custom-index c.custom-item.result c.loop-custom-test.true c.loop-custom.invariant (subst (λ (x : Custom). is_utf8 x.name ≡ true) c.custom-item.is c.name_is_utf8.ensures)

pub returns : goal.returns
returns c = subst (All (λ (x : Custom). is_utf8 x.name ≡ true)) (take_all c.loop-custom.custom-index c.args.customs.now c.loop-custom-test.false) c.loop-custom.invariant
