-- Names that no drawn one may be: those that the glue file may not declare as they are, and those that others give to what it declares.
use Rattle.std.specs.Prelude.{ℕ, List, [], ◌∷◌, ◌++◌, Option, Some, map, slice_get, if◌then◌else◌}
use Rattle.std.specs.List.{flat_map}
use Rattle.values.specs.TextSet.{TextSet, with_texts}
use Rattle.wasm_core.specs.declared.types.Import.{Import}
use Rattle.glue_shared.specs.declared.settings.Settings.{Settings}
use Rattle.glue_shared.specs.declared.description.Lowered.{Lowered}
use Rattle.glue_shared.specs.Names.{own_names}
pub use Rattle.glue_names.specs.Given.{closure_export, export_name_at}
use Rattle.glue_names.specs.Given.{values_name}
use Rattle.glue_names.specs.Publishing.{is_bundler}
use Rattle.glue_names.specs.Taken.{taken_names}

-- the name of the import at a place, where one stands
abbrev pub import_name_at : List (Option Import) → ℕ → List (List ℕ)
import_name_at imports place = name_of (slice_get imports place)
  where
    name_of : Option (Option Import) → List (List ℕ)
    name_of (Some (Some i)) = i.name ∷ []
    name_of other = []

-- a bundler's glue file exports each own import under its name
abbrev pub bundled_names : Settings → Lowered → List (List ℕ)
bundled_names s l = if is_bundler s.target then own_names s l.«module» l.wit l.aux else []

-- given names that are no host's: those of exports that closures call, of the values of enums of texts, and of a bundler's own imports
abbrev pub given_names : Settings → Lowered → List (List ℕ)
given_names s l = flat_map (closure_export l.«module») l.wit.exports ++ (map values_name l.aux.string_enums ++ bundled_names s l)

-- names of the outside (described ones among them), names that helpers and texts of targets bind, and given names
abbrev pub reserved_names : Settings → Lowered → TextSet
reserved_names s l = with_texts (taken_names s l) (given_names s l)
