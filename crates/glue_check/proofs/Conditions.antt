-- The definitions are what the conditions answer, gone through by their names.
use Rattle.std.proofs.Common.{◌≡◌, None, false, refl, ◌∙◌}
use Rattle.glue_shared.specs.declared.description.Lowered.{Lowered}
use Rattle.glue_shared.specs.declared.settings.Settings.{Settings}
use Rattle.values.specs.Lists.{IsIn}
use Rattle.glue_check.specs.declared.files.FileFlags.{FileFlags}
use Rattle.glue_check.specs.declared.verdict.Condition.{Condition}
use Rattle.glue_check.specs.declared.verdict.TheConstants.{CONDITIONS, UNBUILT}
use Rattle.glue_faults.specs.First.{first_of}
use Rattle.glue_check.specs.Answers.{answer}
use Rattle.glue_check.specs.Verdict.{unbuilt, verdict}
use Rattle.glue_faults.proofs.First.{first_of-none}

pub verdict_is : (files : FileFlags) (settings : Settings) (l : Lowered) → first_of (answer files settings l) CONDITIONS ≡ verdict settings l
unfolding answer verdict
verdict_is files settings l = refl

pub unbuilt_is : (files : FileFlags) (settings : Settings) (l : Lowered) → first_of (answer files settings l) UNBUILT ≡ unbuilt files settings l
unfolding answer unbuilt
unbuilt_is files settings l = refl

-- nothing is asked for of the files: no condition that gives a fault reads what is
abbrev pub no_files : FileFlags
no_files = record { split_debug_info = false; demangle = false }

-- where there is no fault, none of the conditions answers one
pub none_of : (c : Condition) (settings : Settings) (l : Lowered) → IsIn c CONDITIONS → verdict settings l ≡ None → answer no_files settings l c ≡ None
none_of c settings l i h = first_of-none (answer no_files settings l) CONDITIONS c (verdict_is no_files settings l ∙ h) i

-- where nothing is unbuilt, no kind of it is asked for
pub none_unbuilt : (c : Condition) (files : FileFlags) (settings : Settings) (l : Lowered) → IsIn c UNBUILT → unbuilt files settings l ≡ None → answer files settings l c ≡ None
none_unbuilt c files settings l i h = first_of-none (answer files settings l) UNBUILT c (unbuilt_is files settings l ∙ h) i
