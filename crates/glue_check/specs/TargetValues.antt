-- Intrinsics whose value the target doesn't have.
use Rattle.std.specs.Prelude.{ℕ, Bool, false, Option}
use Rattle.std.specs.List.{list_any}
use Rattle.glue_shared.specs.declared.import.AuxImport.{AuxImport}
use Rattle.glue_shared.specs.declared.import.AuxImport.TheVariants as what
use Rattle.glue_shared.specs.declared.description.Lowered.{Lowered}
use Rattle.glue_shared.specs.declared.settings.Settings.{Settings}
use Rattle.glue_shared.specs.declared.settings.Target.{Target}
use Rattle.glue_imports.specs.Intrinsics.{lacks_value}
use Rattle.glue_faults.specs.declared.fault.Fault.{Fault}
use Rattle.glue_faults.specs.declared.fault.Fault.TheVariants as faults
use Rattle.glue_faults.specs.First.{where_true}

-- an intrinsic that answers the module's own object or its instance, on a target where the glue file has no name for it
abbrev pub lacks : Target → AuxImport → Bool
lacks target (what.Intrinsic name) = lacks_value target name
lacks target other = false

abbrev pub is_absent : Target → ℕ × AuxImport → Bool
is_absent target entry = lacks target entry.1

-- such an intrinsic is described
abbrev pub intrinsic_target : Settings → Lowered → Option Fault
intrinsic_target settings l = where_true (list_any (is_absent settings.target) l.aux.imports) faults.IntrinsicTarget
