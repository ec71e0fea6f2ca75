-- Names from modules, where the setting leaves their imports out: each import is used by such a name as it is.
use Rattle.std.specs.Prelude.{ℕ, Bool, true, false, List, [], ◌∷◌, map}
use Rattle.std.specs.List.{flat_map}
use Rattle.glue_shared.specs.declared.import.AuxImport.{AuxImport}
use Rattle.glue_shared.specs.declared.import.JsImport.{JsImport}
use Rattle.glue_shared.specs.declared.import.JsImportName.{JsImportName}
use Rattle.glue_shared.specs.declared.import.JsImportName.TheVariants as names
use Rattle.glue_shared.specs.Names.{names_of, js_import}

-- the name, where it counts
abbrev pub name_where : Bool → List ℕ → List (List ℕ)
name_where true name = name ∷ []
name_where false name = []

-- the name of a module's export, by which it is used where imports are left out
abbrev pub omitted_name : (omitted : Bool) → JsImportName → List (List ℕ)
omitted_name omitted (names.Module from name) = name_where omitted name
omitted_name omitted (names.LocalModule from name) = name_where omitted name
omitted_name omitted (names.InlineJs from index name) = name_where omitted name
omitted_name omitted other = []

-- what these imports begin with
abbrev pub begun : List (ℕ × AuxImport) → List JsImportName
begun imports = flat_map (λ i. names_of (js_import i.1)) imports

-- what the imports of these re-exports begin with
abbrev pub reexported : List (List ℕ × JsImport × Bool) → List JsImportName
reexported reexports = map (λ r. r.1.name) reexports

-- the names from modules among these
abbrev pub omitted_names : (omitted : Bool) → List JsImportName → List (List ℕ)
omitted_names omitted names = flat_map (omitted_name omitted) names
