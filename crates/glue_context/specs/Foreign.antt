-- The modules that the glue file hands on whole, those of imports that it doesn't define, and whether it hands on string constants.
use Rattle.std.specs.Prelude.{ℕ, zero, suc, ◌+◌, ◌||◌, List, [], ◌∷◌, ◌++◌, map, codes, Option, Some, None, is_some, option_map, slice_get, Bool, false, if◌then◌else◌}
use Rattle.std.specs.List.{list_any}
use Rattle.std.specs.Str.{bytes_eq}
use Rattle.wasm_core.specs.ids.ImportId.{ImportId}
use Rattle.wasm_core.specs.declared.types.Import.{Import}
use Rattle.glue_words.specs.declared.item.Item.{Item}
use Rattle.glue_shared.specs.declared.settings.Settings.{Settings}
use Rattle.glue_shared.specs.declared.description.Lowered.{Lowered}
use Rattle.glue_shared.specs.Names.{has_number, own_imports}
use Rattle.glue_steps.specs.Resolving.{live}
use Rattle.glue_lines.specs.Lines.{foreign_line}
use Rattle.glue_lines.specs.declared.form.LineForm.TheVariants.{Es}
use Rattle.glue_context.specs.Rewritten.{rewritten}

-- the module of string constants
abbrev pub is_strings : List ℕ → Bool
is_strings path = bytes_eq path (codes "wasm:js/string-constants")

-- the module of an import, where one stands
abbrev pub path_of : Option Import → Option (List ℕ)
path_of o = option_map (λ (i : Import). i.«module») o

-- the module of the import at a place, where it is none of the own ones, which stand at these places, and no string constant
abbrev pub module_at : (own : List ℕ) → ℕ → Option (List ℕ) → List (List ℕ)
module_at own place None = []
module_at own place (Some path) = if has_number place own || is_strings path then [] else path ∷ []

-- the modules of such imports, from this place on
abbrev pub modules_from : (own : List ℕ) → ℕ → List (Option (List ℕ)) → List (List ℕ)
modules_from own place [] = []
modules_from own place (o ∷ os) = module_at own place o ++ modules_from own (place + 1) os

-- the modules that the glue file hands on, as the written module has them: one for each import that it doesn't define, in their order
abbrev pub foreign_modules : Settings → Lowered → List (List ℕ)
foreign_modules settings l = modules_from (own_imports settings l.«module» l.wit l.aux) 0 (map path_of (rewritten settings l).imports)

-- an import stands, and its module is that of string constants
abbrev pub is_string_import : Option (List ℕ) → Bool
is_string_import None = false
is_string_import (Some path) = is_strings path

-- the written module imports string constants
abbrev pub has_strings : Settings → Lowered → Bool
has_strings settings l = list_any is_string_import (map path_of (rewritten settings l).imports)

-- an import stands at a place
abbrev pub has_path : List (Option (List ℕ)) → ℕ → Bool
has_path paths place = is_some (live (slice_get paths place))

-- these modules, where the import at a place, if one stands there, comes from another one
abbrev pub with_path : List (Option (List ℕ)) → ℕ → List ℕ → List (Option (List ℕ))
with_path [] place path = []
with_path (o ∷ os) zero path = option_map (λ (old : List ℕ). path) o ∷ os
with_path (o ∷ os) (suc place) path = o ∷ with_path os place path

-- the same by a change of the module
abbrev pub with_move : List (Option (List ℕ)) → ImportId × List ℕ × List ℕ → List (Option (List ℕ))
with_move paths e = with_path paths e.0.0 e.1

-- the line of each of these modules, numbered from this number on
abbrev pub foreign_lines : ℕ → List (List ℕ) → List Item
foreign_lines number [] = []
foreign_lines number (path ∷ paths) = foreign_line Es number path ∷ foreign_lines (number + 1) paths
