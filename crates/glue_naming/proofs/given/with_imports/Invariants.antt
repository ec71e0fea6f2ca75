use Rattle.std.proofs.Common.{◌≡◌, map, drop}
use Rattle.std.specs.List.{flat_map}
use Rattle.values.specs.TextSet.{with_texts}
use Rattle.wasm_core.specs.ids.ImportId.{ImportId}
use Rattle.glue_naming.specs.Given.{import_name_at}
use Rattle.glue_naming.proofs.given.with_imports.Given as goal

abbrev pub invariant-loop-place : goal.invariant-loop-place
invariant-loop-place g l =
    with_texts (g.N.Names.bound l.more) (flat_map (import_name_at l.«module».imports) (map (λ (id : ImportId). id.0) (drop l.place-index l.places)))
    ≡ with_texts (g.N.Names.bound l.fn.scope) (flat_map (import_name_at l.«module».imports) (map (λ (id : ImportId). id.0) l.places))
