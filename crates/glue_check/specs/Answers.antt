-- What each condition answers: the code goes through the conditions by their names.
use Rattle.std.specs.Prelude.{Option}
use Rattle.glue_shared.specs.declared.description.Lowered.{Lowered}
use Rattle.glue_shared.specs.declared.settings.Settings.{Settings}
use Rattle.glue_shared.specs.Names.{own_names}
use Rattle.glue_faults.specs.declared.fault.Fault.{Fault}
use Rattle.glue_adapters.specs.Adapters.{unsupported}
use Rattle.glue_adapters.specs.Pairs.{bad_adapter, unbound_import}
use Rattle.glue_published.specs.Clash.{thing_clash}
use Rattle.glue_published.specs.Fixed.{fixed_thing}
use Rattle.glue_published.specs.Reexports.{bad_reexport}
use Rattle.glue_check.specs.declared.files.FileFlags.{FileFlags}
use Rattle.glue_check.specs.declared.verdict.Condition.{Condition}
use Rattle.glue_check.specs.declared.verdict.Condition.TheVariants as conditions
use Rattle.glue_check.specs.Classes.{unknown_class}
use Rattle.glue_check.specs.Links.{link_not_embedded}
use Rattle.glue_check.specs.Missing.{missing_part}
use Rattle.claimed_modules.specs.Modules.{module_clash}
use Rattle.glue_names.specs.Naming.{bad_name, global_twice, name_clash}
use Rattle.glue_check.specs.TargetValues.{intrinsic_target}
use Rattle.glue_check.specs.Unbuilt.{unbuilt_target, unbuilt_imports, unbuilt_classes, unbuilt_settings, unbuilt_lifecycle, unbuilt_files}
use Rattle.glue_check.specs.Verdict.{threads, package_json}

-- the answer of a condition
unfoldable pub answer : FileFlags → Settings → Lowered → Condition → Option Fault
answer files settings l conditions.UnbuiltTarget = unbuilt_target settings
answer files settings l conditions.UnbuiltImports = unbuilt_imports settings l
answer files settings l conditions.UnbuiltClasses = unbuilt_classes l
answer files settings l conditions.UnbuiltSettings = unbuilt_settings settings
answer files settings l conditions.UnbuiltLifecycle = unbuilt_lifecycle l
answer files settings l conditions.UnbuiltFiles = unbuilt_files files l
answer files settings l conditions.Threads = threads l.«module»
answer files settings l conditions.PackageJson = package_json l.aux
answer files settings l conditions.UnsupportedInstr = unsupported l.wit
answer files settings l conditions.BadAdapter = bad_adapter l
answer files settings l conditions.UnboundImport = unbound_import settings l
answer files settings l conditions.BadName = bad_name settings l
answer files settings l conditions.GlobalTwice = global_twice settings l
answer files settings l conditions.NameClash = name_clash settings l
answer files settings l conditions.ModuleClash = module_clash settings l
answer files settings l conditions.UnknownClass = unknown_class l
answer files settings l conditions.ExportClash = thing_clash settings l.aux
answer files settings l conditions.FixedExport = fixed_thing settings (own_names settings l.«module» l.wit l.aux) l.aux
answer files settings l conditions.BadReexport = bad_reexport settings l.aux
answer files settings l conditions.IntrinsicTarget = intrinsic_target settings l
answer files settings l conditions.LinkNotEmbedded = link_not_embedded settings l
answer files settings l conditions.MissingPart = missing_part settings l
