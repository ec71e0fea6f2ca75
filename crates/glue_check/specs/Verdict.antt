-- The first fault of a description.
use Rattle.std.specs.Prelude.{Bool, false, [], ◌∷◌, Option, Some, None}
use Rattle.std.specs.List.{list_any}
use Rattle.wasm_core.specs.Contents.{Contents}
use Rattle.wasm_core.specs.declared.types.Memory.{Memory}
use Rattle.glue_shared.specs.declared.aux.WasmBindgenAux.{WasmBindgenAux}
use Rattle.glue_shared.specs.declared.description.Lowered.{Lowered}
use Rattle.glue_shared.specs.declared.settings.Settings.{Settings}
use Rattle.glue_shared.specs.Names.{own_names}
use Rattle.glue_adapters.specs.Resolving.{is_some_item}
use Rattle.glue_faults.specs.declared.fault.Fault.{Fault}
use Rattle.glue_faults.specs.declared.fault.Fault.TheVariants as faults
use Rattle.glue_faults.specs.First.{first_some, where_true}
use Rattle.glue_adapters.specs.Adapters.{unsupported}
use Rattle.glue_adapters.specs.Pairs.{bad_adapter, unbound_import}
use Rattle.glue_published.specs.Clash.{thing_clash}
use Rattle.glue_published.specs.Fixed.{fixed_thing}
use Rattle.glue_published.specs.Reexports.{bad_reexport}
use Rattle.glue_check.specs.declared.files.FileFlags.{FileFlags}
use Rattle.glue_check.specs.Classes.{unknown_class}
use Rattle.glue_check.specs.Links.{link_not_embedded}
use Rattle.glue_check.specs.Missing.{missing_part}
use Rattle.claimed_modules.specs.Modules.{module_clash}
use Rattle.glue_names.specs.Naming.{bad_name, global_twice, name_clash}
use Rattle.glue_check.specs.TargetValues.{intrinsic_target}
use Rattle.glue_check.specs.Unbuilt.{unbuilt_target, unbuilt_imports, unbuilt_classes, unbuilt_settings, unbuilt_lifecycle, unbuilt_files}

-- a memory that threads share
abbrev pub is_shared : Option Memory → Bool
is_shared None = false
is_shared (Some memory) = memory.limits.shared

-- a memory is shared
abbrev pub threads : Contents → Option Fault
threads m = where_true (list_any is_shared m.memories) faults.Threads

-- a package file is described
abbrev pub package_json : WasmBindgenAux → Option Fault
package_json aux = where_true (is_some_item aux.package_jsons) faults.PackageJson

-- the first that is met of the conditions on a description and its module, as far as these are stated yet, with what it names
unfoldable pub verdict : Settings → Lowered → Option Fault
verdict settings l = first_some (
    threads l.«module»
    ∷ package_json l.aux
    ∷ unsupported l.wit
    ∷ bad_adapter l
    ∷ unbound_import settings l
    ∷ bad_name settings l
    ∷ global_twice settings l
    ∷ name_clash settings l
    ∷ module_clash settings l
    ∷ unknown_class l
    ∷ thing_clash settings l.aux
    ∷ fixed_thing settings (own_names settings l.«module» l.wit l.aux) l.aux
    ∷ bad_reexport settings l.aux
    ∷ intrinsic_target settings l
    ∷ link_not_embedded settings l
    ∷ missing_part settings l
    ∷ [])

-- the first kind of what is asked for and isn't built
unfoldable pub unbuilt : FileFlags → Settings → Lowered → Option Fault
unbuilt files settings l = first_some (
    unbuilt_target settings
    ∷ unbuilt_imports settings l
    ∷ unbuilt_classes l
    ∷ unbuilt_settings settings
    ∷ unbuilt_lifecycle l
    ∷ unbuilt_files files l
    ∷ [])
