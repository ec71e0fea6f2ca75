use Rattle.std.proofs.Common.{◌≡◌, take}
use Rattle.std.specs.List.{flat_map}
use Rattle.wasm_core.specs.ids.ImportId.{ImportId}
use Rattle.glue_shared.specs.Names.{name_at}
use Rattle.printed_adapters.proofs.own.names_at.Given as goal

abbrev pub invariant-loop-place : goal.invariant-loop-place
invariant-loop-place l = l.texts ≡ flat_map (λ (id : ImportId). name_at id.0 l.imports) (take l.place-index l.places)
