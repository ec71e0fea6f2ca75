use Rattle.std.proofs.Common.{◌≡◌, drop, map}
use Rattle.std.specs.Prelude.{find}
use Rattle.wasm_core.specs.ids.ImportId.{ImportId}
use Rattle.glue_adapters.specs.Pairs.{is_unbound}
use Rattle.glue_adapters.proofs.unbound.first_unbound.Given as goal

abbrev pub invariant-loop-place : goal.invariant-loop-place
invariant-loop-place l =
    find (is_unbound l.lowered l.defined) (map (λ (id : ImportId). id.0) (drop l.place-index l.places))
    ≡ find (is_unbound l.lowered l.defined) (map (λ (id : ImportId). id.0) l.places)
