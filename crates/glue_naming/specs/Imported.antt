-- The names that what own imports call begins with, and those that are wanted for them.
use Rattle.std.specs.Prelude.{ℕ, Bool, true, false, List, [], ◌++◌, codes, if◌then◌else◌, Option, Some, None, option_and_then, filter_map}
use Rattle.std.specs.List.{flat_map}
use Rattle.std.specs.Ordering.{nat_cmp}
use Rattle.values.specs.Map.{look_up}
use Rattle.wasm_core.specs.ids.ImportId.{ImportId}
use Rattle.glue_shared.specs.declared.adapter.Instruction.{Instruction}
use Rattle.glue_shared.specs.declared.adapter.Instruction.TheVariants as instr
use Rattle.glue_shared.specs.declared.description.Lowered.{Lowered}
use Rattle.glue_shared.specs.declared.import.AuxImport.{AuxImport}
use Rattle.glue_shared.specs.declared.import.JsImportName.{JsImportName}
use Rattle.glue_shared.specs.declared.import.JsImportName.TheVariants.{Global, Module, LocalModule, InlineJs, VendorPrefixed}
use Rattle.glue_shared.specs.declared.settings.Settings.{Settings}
use Rattle.glue_shared.specs.declared.settings.Target.{Target}
use Rattle.glue_shared.specs.Names.{code_of, entry_of, has_number, is_emscripten, js_import, names_of, own_imports}
use Rattle.glue_naming.specs.declared.named.Named.TheVariants.{Import}
use Rattle.glue_naming.specs.declared.named.WantedName.TheVariants.{Plain}
use Rattle.glue_naming.specs.declared.named.Wanted.{Wanted}
use Rattle.glue_published.specs.Reexports.{is_outside}
use Rattle.glue_names.specs.Once.{each_once}

-- ---- names that adapters call

-- what an instruction calls, by what is described of the adapter
abbrev pub called_name : List (ℕ × AuxImport) → Instruction → List JsImportName
called_name entries (instr.CallAdapter id) = names_of (option_and_then js_import (entry_of id entries))
called_name entries other = []

-- what the code of an adapter calls, in order
abbrev pub called_names : Lowered → ℕ → List JsImportName
called_names l id = flat_map (called_name l.aux.imports) (code_of (look_up nat_cmp l.wit.adapters id))

-- what the adapter of a pair calls, where the import is an own one: a direct import is its name itself
abbrev pub pair_names : List ℕ → Lowered → ImportId × ℕ → List JsImportName
pair_names own l pair = if has_number pair.0.0 own then called_names l pair.1 else []

-- what those of these pairs call
abbrev pub names_called : Settings → Lowered → List (ImportId × ℕ) → List JsImportName
names_called s l pairs = flat_map (pair_names (own_imports s l.«module» l.wit l.aux) l) pairs

-- ---- the names that are wanted for them

-- what stands before the name of a module's export: `__wbg_` on Emscripten, where names of the runtime stand in the same scope
abbrev pub local_front : Target → List ℕ
local_front target = if is_emscripten target then codes "__wbg_" else []

-- the name that a drawn one is wanted to be: that of the module's export, and that of a vendor behind `l`
abbrev pub local_name : Target → JsImportName → List ℕ
local_name target (Global name) = name
local_name target (Module from name) = local_front target ++ name
local_name target (LocalModule from name) = local_front target ++ name
local_name target (InlineJs from index name) = local_front target ++ name
local_name target (VendorPrefixed name prefixes) = codes "l" ++ name

-- what an import begins with, and that name; none is wanted for a name of the host, which goes by itself
abbrev pub import_wanted : (omitted : Bool) → Target → JsImportName → Option Wanted
import_wanted omitted target js =
    if is_outside omitted js then None else Some (record { thing = Import js; name = Plain (local_name target js) })

-- the names that own imports among these pairs ask for, each where it comes first
abbrev pub imports_wanted : Settings → Lowered → List (ImportId × ℕ) → List Wanted
imports_wanted s l pairs = filter_map (import_wanted s.omit_imports s.target) (each_once (names_called s l pairs))
