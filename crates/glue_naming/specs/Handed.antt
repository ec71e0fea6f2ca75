-- The imports that the glue file doesn't define although an adapter stands for them: a described name of a module is the import itself.
use Rattle.std.specs.Prelude.{ℕ, List, [], map, if◌then◌else◌}
use Rattle.std.specs.List.{flat_map}
use Rattle.wasm_core.specs.ids.ImportId.{ImportId}
use Rattle.glue_shared.specs.declared.description.Lowered.{Lowered}
use Rattle.glue_shared.specs.declared.import.JsImportName.{JsImportName}
use Rattle.glue_shared.specs.declared.settings.Settings.{Settings}
use Rattle.glue_shared.specs.Names.{has_number, own_imports}
use Rattle.glue_naming.specs.Imported.{called_names}

-- the import of a pair with the name that its adapter calls, where the import is no own one
abbrev pub handed_pair : List ℕ → Lowered → ImportId × ℕ → List (ImportId × JsImportName)
handed_pair own l pair = if has_number pair.0.0 own then [] else map (λ name. (pair.0, name)) (called_names l pair.1)

-- those of all pairs, in the description's order
abbrev pub handed_imports : Settings → Lowered → List (ImportId × JsImportName)
handed_imports s l = flat_map (handed_pair (own_imports s l.«module» l.wit l.aux) l) l.wit.implements
