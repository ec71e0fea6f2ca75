-- What own imports call and re-exports name, listed with the names that are drawn for it.
use Rattle.std.specs.Prelude.{ℕ, List, ◌++◌, map, Option, option_map, filter_map}
use Rattle.wasm_core.specs.ids.ImportId.{ImportId}
use Rattle.glue_shared.specs.declared.description.Lowered.{Lowered}
use Rattle.glue_shared.specs.declared.import.JsImportName.{JsImportName}
use Rattle.glue_shared.specs.declared.name_map.NameMap.{NameMap}
use Rattle.glue_shared.specs.declared.settings.Settings.{Settings}
use Rattle.glue_names.specs.Once.{each_once}
use Rattle.glue_naming.specs.Imported.{names_called}
use Rattle.glue_naming.specs.Naming.{import_name}
use Rattle.glue_naming.specs.Reexported.{reexported_besides}

-- what own imports among these pairs call, each once, in the order in which it is first called
abbrev pub called_once : Settings → Lowered → List (ImportId × ℕ) → List JsImportName
called_once s l pairs = each_once (names_called s l pairs)

-- that, and then what re-exports name besides, each once, in the order of their export names
abbrev pub imports_named : Settings → Lowered → List (ImportId × ℕ) → List JsImportName
imports_named s l pairs = called_once s l pairs ++ reexported_besides l.aux (names_called s l pairs)

-- what an import begins with, and the name that was drawn for it, where one was
abbrev pub drawn_import : NameMap → JsImportName → Option (JsImportName × List ℕ)
drawn_import m name = option_map (λ (drawn : List ℕ). (name, drawn)) (import_name m name)

-- what of these has a drawn name, with that name
abbrev pub drawn_imports : Settings → Lowered → NameMap → List (ImportId × ℕ) → List (JsImportName × List ℕ)
drawn_imports s l m pairs = filter_map (drawn_import m) (imports_named s l pairs)

-- those names
abbrev pub names_drawn : List (JsImportName × List ℕ) → List (List ℕ)
names_drawn imports = map (λ import. import.1) imports
