use Rattle.std.proofs.Common.{ℕ, map, ap, ◌∙◌}
use Rattle.wasm_core.specs.ids.ImportId.{ImportId}
use Rattle.glue_shared.proofs.Owned.{own_found}
use Rattle.glue_shared.proofs.own.own_imports.Goals as goal

pub returns : goal.returns
returns c =
    let implemented = c.in_ok-implemented.ensures.places ∙ ap (map (λ (pair : ImportId × ℕ). pair.0.0)) c.as_slice.ensures in
    record {
      places = c.in_ok-places.ensures.places
          ∙ own_found c.args.settings.now c.args.«module».now c.args.wit.now c.args.aux.now _ _ implemented c.in_ok-handed_on.ensures.places;
    }
