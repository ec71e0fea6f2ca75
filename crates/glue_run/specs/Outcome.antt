-- What a run of some bytes comes to.
use Rattle.std.specs.Prelude.{Bool, true, false, ◌≡◌, ◌≢◌, ◌≤◌, ◌⊎◌, IsSomeAnd, ℕ, List, [], ◌++◌, codes, Option, Some, None, Ok, Err}
use Rattle.std.specs.Io.KnownBytes.{Appends, Keeps}
use Rattle.cli_support.specs.Emission.{too_large}
use Rattle.cli_support.specs.Causes.{AppendsPrefix}
use Rattle.cli_support.specs.Count.{Rose}
use Rattle.cli_support.specs.Listing.{listing}
use Rattle.cli_support.specs.Lowering.{lowered_of}
use Rattle.cli_support.specs.fault.Fault.{Fault}
use Rattle.cli_support.specs.fault.Fault.TheVariants as fault
use Rattle.cli_support.specs.Named.{fault_name}
use Rattle.cli_support.specs.Configured.{Configured}
use Rattle.cli_support.specs.declared.bindgen.Handed.TheVariants as handed
use Rattle.cli_support.specs.Generating.{Told, Described, Made, answer_of}
use Rattle.cli_support.specs.Rewritten.{rewritten}
use Rattle.cli_support.specs.Plan.{plan_of}
use Rattle.glue_run.specs.Headline.{deno, IsOutputOf}

-- why nothing but a fault's line is written: a fault of the generator, or a section of the module that is too large
pub data Cause : Type 0 where
  Refused : Fault → Cause
  Oversized : Cause

-- the generator's input: these bytes, under the name `out`
abbrev pub with_bytes : List ℕ → Configured
with_bytes bytes = record deno { input = Some (codes "out", handed.Bytes bytes) }

-- the cause that a section that is too large is, where there is one
abbrev pub planning : Option ℕ → Option Cause
planning None = None
planning (Some section) = Some Oversized

-- what a call comes to: the fault that is told, or a section of the written module that is too large
abbrev pub outcome_of : Told Described → Option Cause
outcome_of None = None
outcome_of (Some (Err f)) = Some (Refused f)
outcome_of (Some (Ok found)) = planning (too_large (rewritten found.settings found.description))

-- the first fault of a run over these bytes, or none
abbrev pub outcome : List ℕ → Option Cause
outcome bytes = outcome_of (answer_of (λ settings m. Some (lowered_of settings m)) (with_bytes bytes))

-- want of memory
abbrev pub is_memory : Fault → Bool
is_memory fault.OutOfMemory = true
is_memory other = false

-- the name of a cause: that of the fault's variant, or that of a section that is too large
abbrev pub cause_name : Cause → List ℕ
cause_name (Refused f) = fault_name f
cause_name Oversized = codes "TooLarge"

-- the line for a cause
abbrev pub fault_line : Cause → List ℕ
fault_line cause = codes "fault " ++ (cause_name cause ++ codes "\n")

-- the output that a cause comes with: none with a fault of the generator; one of these bytes with a section that is too large,
-- as with no cause
abbrev pub ComesWith : List ℕ → Option Cause → Option Made → Type 0
ComesWith bytes (Some (Refused f)) output = output ≡ None
ComesWith bytes (Some Oversized) output = IsSomeAnd output (IsOutputOf bytes)
ComesWith bytes None output = IsSomeAnd output (IsOutputOf bytes)

-- the bytes come to this cause, or to none, and to the output that it comes with
abbrev pub ComesTo : List ℕ → Option Made → Option Cause → Type 0
ComesTo bytes output cause = (outcome bytes ≡ cause) × ComesWith bytes cause output

-- what is to be written
abbrev pub said : Option Cause → Option Made → List ℕ
said (Some cause) output = fault_line cause
said None (Some made) = listing (plan_of made)
said None None = []

-- these bytes came to this, and all of it was written
pub record IsSaid (bytes : List ℕ) (output : Option Made) (cause : Option Cause) (old new : Option (List ℕ)) : Type 0 where
  pub comes : ComesTo bytes output cause
  pub written : Appends old new (said cause output)

-- these bytes came to something, and a part of it was written
pub record IsCut (bytes : List ℕ) (output : Option Made) (old new : Option (List ℕ)) : Type 0 where
  pub cause : Option Cause
  pub comes : ComesTo bytes output cause
  pub written : AppendsPrefix old new (said cause output)

-- a status after a text was to be written: the one of success, 4 or 5
pub record Wrote (done : ℕ) (text : List ℕ) (status : ℕ) (old new : Option (List ℕ)) (before now : ℕ) : Type 0 where
  pub known : (status ≡ done) ⊎ ((status ≡ 4) ⊎ (status ≡ 5))
  pub all : status ≡ done → Appends old new text
  pub prefix : AppendsPrefix old new text
  pub failed : status ≡ 4 → Rose before now
  pub kept : status ≢ 4 → status ≢ 5 → now ≡ before
  pub later : before ≤ now

-- What these bytes came to, and by the status what was written of it: all with 0 and 1, a part with 4 and 5. With 5 this may be
-- unknown yet, and then there is no output.
pub record Answered (bytes : List ℕ) (status : ℕ) (output : Option Made) (old new : Option (List ℕ)) (before now : ℕ) : Type 0 where
  pub known : (status ≡ 0) ⊎ ((status ≡ 1) ⊎ ((status ≡ 4) ⊎ (status ≡ 5)))
  pub done : status ≡ 0 → IsSaid bytes output None old new
  pub refused : status ≡ 1 → (cause : Cause) × IsSaid bytes output (Some cause) old new
  pub failed : status ≡ 4 → Rose before now × IsCut bytes output old new
  pub short : status ≡ 5 → ((output ≡ None) × Keeps old new) ⊎ IsCut bytes output old new
  pub kept : status ≢ 4 → status ≢ 5 → now ≡ before
  pub later : before ≤ now
