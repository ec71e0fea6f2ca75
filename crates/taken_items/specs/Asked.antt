-- The items of the module that the adapters which become functions ask for, and those by which what imports throw is handed to the module.
use Rattle.std.specs.Prelude.{ℕ, List, [], ◌++◌, option_and_then, if◌then◌else◌}
use Rattle.std.specs.List.{flat_map}
use Rattle.wasm_core.specs.ids.ImportId.{ImportId}
use Rattle.wasm_core.specs.entries.ExportItem.{ExportItem}
use Rattle.glue_shared.specs.declared.adapter.Instruction.{Instruction}
use Rattle.glue_shared.specs.declared.adapter.Instruction.TheVariants as instr
use Rattle.glue_shared.specs.declared.aux.AuxExport.{AuxExport}
use Rattle.glue_shared.specs.declared.description.Lowered.{Lowered}
use Rattle.glue_shared.specs.declared.settings.Settings.{Settings}
use Rattle.glue_shared.specs.Names.{entry_of, own_imports}
use Rattle.glue_shared.specs.Roots.{listed}
use Rattle.glue_imports.specs.Given.{given_item}
use Rattle.glue_steps.specs.Needed.{needed_items, store_item}
use Rattle.printed_adapters.specs.Caught.{catches, handing}
use Rattle.printed_adapters.specs.Printed.{code_by, export_code, pair_code, used_closures}

-- the item that is given by what an instruction calls, by what is described of that import adapter
abbrev pub called_item : Lowered → Instruction → List ExportItem
called_item l (instr.CallAdapter id) = listed (option_and_then (given_item l) (entry_of id l.aux.imports))
called_item l other = []

-- the items that an instruction asks for: that one, and those that it takes itself
abbrev pub instruction_asks : Settings → Lowered → Instruction → List ExportItem
instruction_asks s l i = called_item l i ++ needed_items s l i

-- those that code asks for
abbrev pub code_asks : Settings → Lowered → List Instruction → List ExportItem
code_asks s l code = flat_map (instruction_asks s l) code

-- those that the adapter of an export asks for
abbrev pub export_asks : Settings → Lowered → AuxExport → List ExportItem
export_asks s l e = code_asks s l (export_code l e)

-- those that the adapter of a pair asks for, where the import is one of these
abbrev pub pair_asks : Settings → List ℕ → Lowered → ImportId × ℕ → List ExportItem
pair_asks s own l pair = code_asks s l (pair_code own l pair)

-- those that the adapter of a closure asks for
abbrev pub closure_asks : Settings → Lowered → ℕ → List ExportItem
closure_asks s l id = code_asks s l (code_by l id)

-- those that the adapters of exports, of own imports, and of closures that are used ask for
abbrev pub adapters_ask : Settings → Lowered → List ExportItem
adapters_ask s l =
    flat_map (export_asks s l) l.aux.exports
    ++ (flat_map (pair_asks s (own_imports s l.«module» l.wit l.aux) l) l.wit.implements ++ flat_map (closure_asks s l) (used_closures s l))

-- those by which what imports throw is handed to the module, where it is caught: the function that takes it, and what the value goes by
abbrev pub handing_asks : Settings → Lowered → List ExportItem
handing_asks s l = if catches s l then listed (store_item l) ++ needed_items s l handing else []

-- all that is asked for
abbrev pub asked_items : Settings → Lowered → List ExportItem
asked_items s l = adapters_ask s l ++ handing_asks s l
