-- The imports that the glue file defines, by their names and by their places.
use Rattle.std.proofs.Common.{◌≡◌, ℕ, zero, suc, List, [], ◌∷◌, ◌++◌, map, Bool, Option, Some, None, refl, sym, ap, ◌∙◌}
use Rattle.std.specs.List.{flat_map, list_any}
use Rattle.std.proofs.lemmas.List.{append-nil}
use Rattle.wasm_core.specs.ids.ImportId.{ImportId}
use Rattle.wasm_core.specs.declared.types.Import.{Import}
use Rattle.glue_shared.specs.declared.description.Lowered.{Lowered}
use Rattle.glue_shared.specs.declared.settings.Settings.{Settings}
use Rattle.glue_shared.specs.Names.{name_at, own_imports, own_names}
use Rattle.glue_shared.proofs.Texts.{list_any-map}
use Rattle.glue_steps.specs.Resolving.{entry_at}

-- the name of an import, if there is one
abbrev name_of : Option Import → List (List ℕ)
name_of (Some i) = i.name ∷ []
name_of None = []

name_found : (place : ℕ) (imports : List (Option Import)) → name_at place imports ≡ name_of (entry_at imports place)
name_found place [] = refl
name_found zero (None ∷ imports) = refl
name_found zero (Some i ∷ imports) = refl
name_found (suc place) (entry ∷ imports) = name_found place imports

-- where an import stands, its name is added, and else none
pub name_added : (place : ℕ) (imports : List (Option Import)) (i : Import) → entry_at imports place ≡ Some i → name_at place imports ≡ i.name ∷ []
name_added place imports i h = name_found place imports ∙ ap name_of h

pub none_added : (place : ℕ) (imports : List (Option Import)) (texts : List (List ℕ)) → entry_at imports place ≡ None → texts ≡ texts ++ name_at place imports
none_added place imports texts h = sym (append-nil texts) ∙ ap (λ names. texts ++ names) (sym (name_found place imports ∙ ap name_of h))

-- by ids or by places
names_of_ids : (imports : List (Option Import)) (ids : List ImportId)
    → flat_map (λ (id : ImportId). name_at id.0 imports) ids ≡ flat_map (λ place. name_at place imports) (map (λ (id : ImportId). id.0) ids)
names_of_ids imports [] = refl
names_of_ids imports (id ∷ ids) = ap (λ names. name_at id.0 imports ++ names) (names_of_ids imports ids)

pub own_named : (s : Settings) (l : Lowered) (imports : List (Option Import)) (ids listed : List ImportId)
    → imports ≡ l.«module».imports → listed ≡ ids → map (λ (id : ImportId). id.0) ids ≡ own_imports s l.«module» l.wit l.aux
    → flat_map (λ (id : ImportId). name_at id.0 imports) listed ≡ own_names s l.«module» l.wit l.aux
unfolding own_names
own_named s l imports ids listed is same own =
    ap (λ (is : List (Option Import)). flat_map (λ (id : ImportId). name_at id.0 is) listed) is
    ∙ ap (λ (xs : List ImportId). flat_map (λ (id : ImportId). name_at id.0 l.«module».imports) xs) same
    ∙ names_of_ids l.«module».imports ids
    ∙ ap (flat_map (λ place. name_at place l.«module».imports)) own

-- one of these imports passes a test of its place
pub any_of_ids : (p : ℕ → Bool) (ids : List ImportId) → list_any p (map (λ (id : ImportId). id.0) ids) ≡ list_any (λ (id : ImportId). p id.0) ids
any_of_ids p ids = list_any-map p (λ (id : ImportId). id.0) ids

-- one of the imports that the glue file defines passes a test of its place, by their ids
pub any_own : (p : ℕ → Bool) (s : Settings) (l : Lowered) (ids listed : List ImportId) → listed ≡ ids
    → map (λ (id : ImportId). id.0) ids ≡ own_imports s l.«module» l.wit l.aux
    → list_any (λ (id : ImportId). p id.0) listed ≡ list_any p (own_imports s l.«module» l.wit l.aux)
any_own p s l ids listed same own = ap (list_any (λ (id : ImportId). p id.0)) same ∙ sym (any_of_ids p ids) ∙ ap (list_any p) own
