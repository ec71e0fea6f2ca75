-- What a refusal says of a text.
use Rattle.std.proofs.Common.{◌≡◌, ◌⊎◌, ℕ, List, [], Option, Some, None, Result, Ok, Err, IfErr, refl, sym, ap, ◌∙◌, inl, inr}
use Rattle.values.specs.Count.{Rose}
use Rattle.glue_ends.specs.Listing.{listing}
use Rattle.glue_ends.specs.declared.plan.PlannedFile.{PlannedFile}
use Rattle.planned_paths.specs.Paths.{problem_in}
use Rattle.planned_paths.specs.declared.problem.PathProblem.{PathProblem}
use Rattle.file_listing.specs.Reading.{AreListable}
use Rattle.file_listing.proofs.Entries.{no_listing, same_files}
use Rattle.glue_unpack.specs.Putting.{Puts}
use Rattle.glue_unpack.specs.Unpacking.{IsFront, IsRefusal, IsRefused, Lists}
use Rattle.glue_unpack.specs.declared.file.PutFile.{PutFile}
use Rattle.glue_unpack.specs.declared.fault.UnpackFault.{UnpackFault}
use Rattle.glue_unpack.specs.declared.fault.UnpackFault.TheVariants.{Listing, Astray, Clash, Put, OutOfMemory}
use Rattle.glue_unpack.proofs.Puts.{puts_none}

pub no_front : (files : List PlannedFile) (a : Option (List PutFile)) → IsFront files a a
no_front files a = record { count = 0; put = puts_none a }

-- what is said of the files of a text is said of the text
pub refused : (text : List ℕ) (files : List PlannedFile) (old new : Option (List PutFile)) (before now : ℕ) (fault : UnpackFault) → (listing files ≡ text) × AreListable files → IsRefusal files old new before now fault
    → IsRefused text old new before now fault
refused text files old new before now (Listing fault) of is = absurd is
refused text files old new before now (Astray path) of is = (record { files = files; listable = of.1; whole = of.0; are = is.0 }, is.1)
refused text files old new before now (Clash path) of is = (record { files = files; listable = of.1; whole = of.0; are = is.0 }, is.1)
refused text files old new before now (Put path) of is = record { files = files; listable = of.1; whole = of.0; are = is }
refused text files old new before now OutOfMemory of is = inr (record { files = files; listable = of.1; whole = of.0; are = is })

pub all_refused : {T : Type 0} (text : List ℕ) (files : List PlannedFile) (old new : Option (List PutFile)) (before now : ℕ) (r : Result T UnpackFault) → (listing files ≡ text) × AreListable files
    → IfErr r (IsRefusal files old new before now) → IfErr r (IsRefused text old new before now)
all_refused text files old new before now (Ok x) of is = tt
all_refused text files old new before now (Err fault) of is = refused text files old new before now fault of is

no_problem : (files others : List PlannedFile) (problem : PathProblem) → others ≡ files → problem_in files ≡ None → problem_in others ≡ Some problem → ⊥
no_problem files others problem same fine first =
    let same_problem : problem_in others ≡ problem_in files = ap problem_in same in
    let impossible : Some problem ≡ None = sym first ∙ same_problem ∙ fine in
    cc

-- a text that lists files without a problem is refused only where a file failed, or for want of memory
pub only_memory : (text : List ℕ) (files : List PlannedFile) (old new : Option (List PutFile)) (before now : ℕ) (fault : UnpackFault) → AreListable files → listing files ≡ text → problem_in files ≡ None
    → (Rose before now → ⊥) → IsRefused text old new before now fault → fault ≡ OutOfMemory
only_memory text files old new before now (Listing fault) listable is fine calm refusal = absurd (no_listing text fault.place refusal.0 files listable is)
only_memory text files old new before now (Astray path) listable is fine calm refusal =
    absurd (no_problem files refusal.0.files _ (same_files refusal.0.files files refusal.0.listable listable (refusal.0.whole ∙ sym is)) fine refusal.0.are.first)
only_memory text files old new before now (Clash path) listable is fine calm refusal =
    absurd (no_problem files refusal.0.files _ (same_files refusal.0.files files refusal.0.listable listable (refusal.0.whole ∙ sym is)) fine refusal.0.are.first)
only_memory text files old new before now (Put path) listable is fine calm refusal = absurd (calm refusal.are.rose)
only_memory text files old new before now OutOfMemory listable is fine calm refusal = refl

pub all_memory : {T : Type 0} (text : List ℕ) (files : List PlannedFile) (old new : Option (List PutFile)) (before now : ℕ) (r : Result T UnpackFault) → AreListable files → listing files ≡ text → problem_in files ≡ None
    → (Rose before now → ⊥) → IfErr r (IsRefused text old new before now) → IfErr r (λ fault. fault ≡ OutOfMemory)
all_memory text files old new before now (Ok x) listable is fine calm refusal = tt
all_memory text files old new before now (Err fault) listable is fine calm refusal = only_memory text files old new before now fault listable is fine calm refusal
