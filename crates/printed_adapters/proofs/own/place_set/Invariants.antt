use Rattle.std.proofs.Common.{◌≡◌, take, map}
use Rattle.wasm_core.specs.ids.ImportId.{ImportId}
use Rattle.printed_adapters.proofs.own.place_set.Given as goal

abbrev pub invariant-loop-id : goal.invariant-loop-id
invariant-loop-id l = l.places ≡ map (λ (id : ImportId). id.0) (take l.id-index l.ids)
