-- A name is a fixed one exactly where it is in one of three lists; and things are found by any test that says the same of names.
use Rattle.std.proofs.Common.{◌≡◌, ℕ, ◌||◌, ◌&&◌, Bool, cond, List, [], ◌∷◌, ◌++◌, refl, ap, ◌∙◌, find}
use Rattle.std.specs.Prelude.{Some}
use Rattle.glue_shared.specs.declared.settings.Settings.{Settings}
use Rattle.glue_shared.specs.Names.{is_one_of, published_names, standing_names, wasm_names, fixed_public_names}
use Rattle.glue_shared.specs.Paths.{Path}
use Rattle.glue_shared.proofs.Sets.{one_of-append}
use Rattle.glue_published.specs.declared.things.PublishedThing.{PublishedThing}
use Rattle.glue_published.specs.Fixed.{begins_fixed, is_fixed_thing, is_shown, publishes_imports}

pub public_any : (settings : Settings) (name : List ℕ)
    → is_one_of (fixed_public_names settings) name
    ≡ (is_one_of (published_names settings.target) name || (is_one_of (standing_names settings.target) name || is_one_of (wasm_names settings) name))
unfolding fixed_public_names
public_any settings name =
    one_of-append (published_names settings.target) (standing_names settings.target ++ wasm_names settings) name
    ∙ ap (λ b. is_one_of (published_names settings.target) name || b) (one_of-append (standing_names settings.target) (wasm_names settings) name)

module _ (settings : Settings) (a b : List ℕ → Bool) (same : (name : List ℕ) → a name ≡ b name) where
  begins_same : (path : Path) → begins_fixed settings a path ≡ begins_fixed settings b path
  begins_same [] = refl
  begins_same (segment ∷ path) =
      ap (λ own. is_one_of (fixed_public_names settings) segment || (publishes_imports settings.target && own)) (same segment)

  -- the first thing under a fixed name, by two tests of own names that say the same
  pub found_same : (things : List PublishedThing) → find (is_fixed_thing settings a) things ≡ find (is_fixed_thing settings b) things
  found_same [] = refl
  found_same (t ∷ things) =
      ap (λ fixed. cond (is_shown t && fixed) (Some t) (find (is_fixed_thing settings a) things)) (begins_same t.path)
      ∙ ap (λ rest. cond (is_fixed_thing settings b t) (Some t) rest) (found_same things)
