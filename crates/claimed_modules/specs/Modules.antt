-- Modules that are imported from, and those whose names the glue file needs for itself.
use Rattle.std.specs.Prelude.{ℕ, ◌+◌, Bool, false, ◌||◌, if◌then◌else◌, List, [], ◌∷◌, ◌++◌, map, codes, Option, Some, None, option_map, option_and_then, find}
use Rattle.std.specs.Fmt.{decimal}
use Rattle.std.specs.List.{list_any, flat_map}
use Rattle.std.specs.Option.{option_or}
use Rattle.std.specs.Ordering.{nat_cmp}
use Rattle.std.specs.Str.{bytes_eq}
use Rattle.values.specs.Map.{look_up}
use Rattle.wasm_core.specs.ids.ImportId.{ImportId}
use Rattle.wasm_core.specs.declared.types.Import.{Import}
use Rattle.glue_shared.specs.declared.adapter.Instruction.{Instruction}
use Rattle.glue_shared.specs.declared.adapter.Instruction.TheVariants as instr
use Rattle.glue_shared.specs.declared.adapter.NonstandardWitSection.{NonstandardWitSection}
use Rattle.glue_shared.specs.declared.import.AuxImport.{AuxImport}
use Rattle.glue_shared.specs.declared.import.JsImportName.{JsImportName}
use Rattle.glue_shared.specs.declared.import.JsImportName.TheVariants as names
use Rattle.glue_shared.specs.declared.description.Lowered.{Lowered}
use Rattle.glue_shared.specs.declared.settings.Settings.{Settings}
use Rattle.glue_shared.specs.Names.{has_number, entry_of, code_of, js_import, names_of, described_names, own_imports}
use Rattle.glue_faults.specs.declared.fault.Fault.{Fault}
use Rattle.glue_faults.specs.declared.fault.Fault.TheVariants as faults
use Rattle.glue_faults.specs.First.{first_of, first_some, where_true}
use Rattle.glue_shared.specs.Names.{implemented}
use Rattle.claimed_modules.specs.declared.modules.Claimed.{Claimed}

-- ---- described modules

-- the module that a described name comes from: one that is handed in with the description stands among the snippets
abbrev pub module_of : JsImportName → Option (List ℕ)
module_of (names.Global name) = None
module_of (names.Module from name) = Some from
module_of (names.LocalModule from name) = Some (codes "./snippets/" ++ from)
module_of (names.InlineJs crate index name) = Some (codes "./snippets/" ++ (crate ++ (codes "/inline" ++ (decimal index ++ codes ".js"))))
module_of (names.VendorPrefixed name prefixes) = None

-- the module of placeholders, and that of string constants: nothing can be described to come from them
abbrev pub is_reserved : List ℕ → Bool
is_reserved name = bytes_eq name (codes "__wbindgen_placeholder__") || bytes_eq name (codes "wasm:js/string-constants")

-- the module of a described name, where nothing can be described to come from it
abbrev pub reserved_in : JsImportName → Option (List ℕ)
reserved_in described = option_and_then (λ name. where_true (is_reserved name) name) (module_of described)

-- ---- foreign modules

-- a described name comes from this module
abbrev pub comes_from : List ℕ → JsImportName → Bool
comes_from name described = list_any (λ from. bytes_eq from name) (modules (module_of described))
  where
    modules : Option (List ℕ) → List (List ℕ)
    modules None = []
    modules (Some from) = from ∷ []

-- the instruction calls an import that is described as a name of this module
abbrev pub calls_from : List (ℕ × AuxImport) → List ℕ → Instruction → Bool
calls_from entries name (instr.CallAdapter id) = list_any (comes_from name) (names_of (option_and_then js_import (entry_of id entries)))
calls_from entries name other = false

-- the place of an import whose adapter calls such an import
abbrev pub called_place : NonstandardWitSection → List (ℕ × AuxImport) → List ℕ → ImportId × ℕ → List ℕ
called_place wit entries name pair =
    if list_any (calls_from entries name) (code_of (look_up nat_cmp wit.adapters pair.1)) then pair.0.0 ∷ [] else []

-- a name that the glue file needs for a module of its own, with the places of the imports whose adapters call what comes from there
abbrev pub claim_of : Lowered → List ℕ → Claimed
claim_of l name = record { name = name; called = flat_map (called_place l.wit l.aux.imports name) l.wit.implements }

-- the module that the imports which the glue file defines move to, but on Emscripten
abbrev pub glue_module : List ℕ → List ℕ
glue_module stem = codes "./" ++ (stem ++ codes "_bg.js")

-- that module, and the key that no object can have
abbrev pub claims : Settings → Lowered → List Claimed
claims settings l = map (claim_of l) (glue_module settings.stem ∷ codes "__proto__" ∷ [])

-- An import at this place, which the glue file doesn't define, comes from the module of such a name in the module that is written: where an
-- adapter stands for it, the described name that the adapter calls is the import itself.
unfoldable pub is_from : List ℕ → ℕ → Import → Claimed → Bool
is_from paired place i claim = if has_number place paired then has_number place claim.called else bytes_eq i.«module» claim.name

-- the first of these names that an import has for its module, where the glue file doesn't define it
abbrev pub foreign_clash : (own paired : List ℕ) → List Claimed → ℕ → Import → Option (List ℕ)
foreign_clash own paired claimed place i =
    if has_number place own then None else option_map (λ (claim : Claimed). claim.name) (find (is_from paired place i) claimed)

-- of the import at a place, where one stands: the first of these names that it has for its module, where the glue file doesn't define it
abbrev pub placed_clash : (own paired : List ℕ) → List Claimed → ℕ → Option Import → Option (List ℕ)
placed_clash own paired claimed place None = None
placed_clash own paired claimed place (Some i) = foreign_clash own paired claimed place i

-- the first answer that f gives of a place and what stands there, from this place on
abbrev pub first_placed : (ℕ → Option Import → Option (List ℕ)) → ℕ → List (Option Import) → Option (List ℕ)
first_placed f place [] = None
first_placed f place (i ∷ imports) = option_or (f place i) (first_placed f (place + 1) imports)

-- the first import's module, in the order of the module's imports, of which the glue file needs the name
unfoldable pub foreign_module : Settings → Lowered → Option (List ℕ)
foreign_module settings l =
    first_placed (placed_clash (own_imports settings l.«module» l.wit l.aux) (implemented l.wit) (claims settings l)) 0 l.«module».imports

-- ---- both

-- a described module of which nothing can be described, or a foreign module whose name the glue file needs
unfoldable pub clashing_module : Settings → Lowered → Option (List ℕ)
clashing_module settings l = first_some (
    first_of reserved_in (described_names l.aux)
    ∷ foreign_module settings l
    ∷ [])

-- a module has a name that it can't have
abbrev pub module_clash : Settings → Lowered → Option Fault
module_clash settings l = option_map faults.ModuleClash (clashing_module settings l)
