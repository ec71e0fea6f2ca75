-- The module that is written: what is changed in the collected one is told by settings and description.
use Rattle.std.specs.Prelude.{ℕ, List, ◌++◌, Option, None, option_map, option_and_then, filter_map, if◌then◌else◌}
use Rattle.wasm_core.specs.ids.GlobalId.{GlobalId}
use Rattle.wasm_core.specs.ids.ImportId.{ImportId}
use Rattle.wasm_core.specs.Contents.{Contents}
use Rattle.wasm_core.specs.declared.types.Import.{Import}
use Rattle.glue_shared.specs.declared.settings.Settings.{Settings}
use Rattle.glue_shared.specs.declared.description.Lowered.{Lowered}
use Rattle.glue_shared.specs.declared.import.JsImportName.{JsImportName}
use Rattle.glue_shared.specs.Names.{own_imports}
use Rattle.glue_steps.specs.Resolving.{entry_at}
use Rattle.glue_lines.specs.Grouped.{source_of}
use Rattle.glue_naming.specs.Handed.{handed_imports}
use Rattle.taken_items.specs.ItemNames.{added_exports}
pub use Rattle.claimed_modules.specs.Modules.{glue_module}
use Rattle.printed_adapters.specs.Printed.{uses_shim}
use Rattle.glue_context.specs.declared.edits.Edits.{Edits}
use Rattle.glue_context.specs.Edits.{has_start, edited}

-- an import that stands comes from the glue file's module, under its name
abbrev pub move_of : List ℕ → List (Option Import) → ℕ → Option (ImportId × List ℕ × List ℕ)
move_of stem imports place = option_map (λ (i : Import). (record { 0 = place }, glue_module stem, i.name)) (entry_at imports place)

-- an import that stands comes from the module of a described name, under its name there, where it has one
abbrev pub handed_move : List (Option Import) → ImportId × JsImportName → Option (ImportId × List ℕ × List ℕ)
handed_move imports handed =
    option_and_then (λ (i : Import). option_map (λ source. (handed.0, source.0, source.1)) (source_of handed.1)) (entry_at imports handed.0.0)

-- own imports move to the glue file's module, and those that the glue file doesn't define although an adapter stands for them become the
-- described name that it calls
abbrev pub all_moves : Settings → Lowered → List (ImportId × List ℕ × List ℕ)
all_moves settings l =
    filter_map (move_of settings.stem l.«module».imports) (own_imports settings l.«module» l.wit l.aux)
    ++ filter_map (handed_move l.«module».imports) (handed_imports settings l)

-- The global over which the module gets a function that moves its stack pointer, the shim: it is the part of the description that tells where
-- the stack of the module ends, where the function of an adapter takes room for results; a description without a fault has that part then.
abbrev pub shim_global : Settings → Lowered → Option GlobalId
shim_global settings l = if uses_shim settings l then l.aux.stack_pointer else None

-- what is changed: imports move, items that adapters ask for are exported where they aren't, the shim is added and exported where functions call
-- it, and a start function becomes an export
abbrev pub edits_of : Settings → Lowered → Edits
edits_of settings l = record {
  imports = all_moves settings l;
  exports = added_exports settings l;
  shim = shim_global settings l;
  start = has_start l.«module»;
}

-- the module that is written
abbrev pub rewritten : Settings → Lowered → Contents
rewritten settings l = edited (edits_of settings l) l.«module»
