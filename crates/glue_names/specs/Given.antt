-- Names that are given, so that none is drawn for what has them: names of exports after which functions of closures are named, where imports are left
-- out names from modules, and names of the values of string enums.
use Rattle.std.specs.Prelude.{ℕ, Bool, false, List, [], ◌∷◌, ◌++◌, map, codes, Option, Some, slice_get}
use Rattle.std.specs.List.{flat_map}
use Rattle.wasm_core.specs.entries.Export.{Export}
use Rattle.wasm_core.specs.ids.ExportId.{ExportId}
use Rattle.wasm_core.specs.Contents.{Contents}
use Rattle.glue_shared.specs.declared.aux.AuxStringEnum.{AuxStringEnum}
use Rattle.glue_shared.specs.declared.description.Lowered.{Lowered}
use Rattle.glue_shared.specs.declared.settings.Settings.{Settings}
use Rattle.glue_shared.specs.Names.{host_names, fixed_names}
use Rattle.glue_names.specs.Omitted.{begun, omitted_names, reexported}
use Rattle.glue_names.specs.Once.{each_new, each_once, each_pair}

-- the name of the export at a place, where one stands
abbrev pub export_name_at : List (Option Export) → ℕ → List (List ℕ)
export_name_at exports place = name_of (slice_get exports place)
  where
    name_of : Option (Option Export) → List (List ℕ)
    name_of (Some (Some e)) = e.name ∷ []
    name_of other = []

-- the name of the export after which the function of a closure's adapter is named
abbrev pub closure_export : Contents → ExportId × ℕ → List (List ℕ)
closure_export m pair = export_name_at m.exports pair.0.0

-- those of all such exports, each with each adapter once
abbrev pub closure_names : Lowered → List (List ℕ)
closure_names l = flat_map (closure_export l.«module») (each_pair l.wit.exports)

-- the name of the values of a string enum
abbrev pub values_name : AuxStringEnum → List ℕ
values_name e = codes "__wbindgen_enum_" ++ e.name

-- The given names of a description that a condition looks at; none looks yet at `inspect` of Node, and at those of a bundler's own imports, which
-- no description that is built has. They are those of exports after which functions of closures are named, then those from modules that imports begin
-- with, then those of string enums, then those from modules of re-exports. Each pair of an export and an adapter counts once, and so does each
-- name from a module, where it first comes.
abbrev pub given_names : (omitted : Bool) → Lowered → List (List ℕ)
given_names omitted l =
    closure_names l
    ++ (omitted_names omitted (each_once (begun l.aux.imports))
    ++ (map values_name l.aux.string_enums
    ++ omitted_names omitted (each_new (begun l.aux.imports) (reexported l.aux.reexports))))

-- the same settings with imports kept
abbrev pub kept : Settings → Settings
kept settings = record settings { omit_imports = false }

-- the names that none of them may be: names of the outside for another reason, and names that the glue file may bind
abbrev pub other_names : Settings → Lowered → List (List ℕ)
other_names settings l = host_names (kept settings) l.aux ++ fixed_names settings l.«module»
