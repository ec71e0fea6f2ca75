-- The imports that re-exports name, and the names that are wanted for them.
use Rattle.std.specs.Prelude.{ℕ, List, map, filter_map}
use Rattle.std.specs.declared.cmp.Ordering.{Ordering}
use Rattle.wasm_core.specs.ids.ImportId.{ImportId}
use Rattle.glue_shared.specs.declared.aux.WasmBindgenAux.{WasmBindgenAux}
use Rattle.glue_shared.specs.declared.description.Lowered.{Lowered}
use Rattle.glue_shared.specs.declared.import.JsImportName.{JsImportName}
use Rattle.glue_shared.specs.declared.settings.Settings.{Settings}
use Rattle.glue_published.specs.Reexports.{Reexport}
use Rattle.glue_names.specs.Once.{each_new}
use Rattle.glue_naming.specs.declared.named.Wanted.{Wanted}
use Rattle.glue_naming.specs.Arranged.{in_order, text_order}
use Rattle.glue_naming.specs.Imported.{import_wanted, names_called}

-- re-exports by the name under which they are published
abbrev pub export_order : Reexport → Reexport → Ordering
export_order a b = text_order a.0 b.0

-- what re-exports name, in this order
abbrev pub names_reexported : WasmBindgenAux → List JsImportName
names_reexported aux = map (λ r. r.1.name) (in_order export_order aux.reexports)

-- what re-exports name besides what is called, each once, where it comes first
abbrev pub reexported_besides : WasmBindgenAux → (called : List JsImportName) → List JsImportName
reexported_besides aux called = each_new called (names_reexported aux)

-- the names that re-exports ask for besides those that own imports among these pairs ask for
abbrev pub reexports_wanted : Settings → Lowered → List (ImportId × ℕ) → List Wanted
reexports_wanted s l pairs = filter_map (import_wanted s.omit_imports s.target) (reexported_besides l.aux (names_called s l pairs))
