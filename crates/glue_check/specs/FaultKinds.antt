-- Which faults the check of a description gives.
use Rattle.std.specs.Prelude.{Bool, true, false}
use Rattle.glue_faults.specs.declared.fault.Fault.{Fault}
use Rattle.glue_faults.specs.declared.fault.Fault.TheVariants as faults

-- a fault of a description: none of what comes before, and not want of memory
abbrev pub is_of_check : Fault → Bool
is_of_check faults.DebugUrlWithoutSplit = false
is_of_check faults.NoInput = false
is_of_check faults.InputSpent = false
is_of_check faults.BadStem = false
is_of_check (faults.Parse place) = false
is_of_check faults.DefaultExport = false
is_of_check faults.ResetStateTarget = false
is_of_check faults.Lower = false
is_of_check faults.OutOfMemory = false
is_of_check other = true
