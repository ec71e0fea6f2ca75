-- What a run did, by its status.
use Rattle.std.specs.Prelude.{◌≡◌, ◌≤◌, ◌⊎◌, length, Some, ℕ, List, [], ◌∷◌, codes, Option, map, String, string_bytes}
use Rattle.std.specs.declared.alloc.Global.{Global}
use Rattle.cli_support.specs.Count.{Rose}
use Rattle.cli_support.specs.Taking.{IsWhole}
use Rattle.cli_support.specs.Generating.{Made}
use Rattle.glue_run.specs.Outcome.{Cause, outcome, IsSaid, IsCut}
use Rattle.glue_run.specs.declared.running.TheConstants.{LIMIT}

-- the words are the two that are read
abbrev pub AreRead : List (String Global) → Type 0
AreRead words = map string_bytes words ≡ codes "--target" ∷ codes "deno" ∷ []

-- all the input was read, and what it comes to was written
pub record IsDone (output : Option Made) (cause : Option Cause) (left rest taken now : Option (List ℕ)) : Type 0 where
  pub bytes : List ℕ
  pub whole : IsWhole LIMIT left rest bytes
  pub said : IsSaid bytes output cause taken now

-- all the input was read, and a part of what it comes to was written
pub record IsPartly (output : Option Made) (left rest taken now : Option (List ℕ)) : Type 0 where
  pub bytes : List ℕ
  pub whole : IsWhole LIMIT left rest bytes
  pub cut : IsCut bytes output taken now

-- the source tells these bytes, which are few enough and come to this, and no end failed
pub record IsUntroubled (left : Option (List ℕ)) (bytes : List ℕ) (cause : Option Cause) (reads reads_now writes writes_now : ℕ) : Type 0 where
  pub told : left ≡ Some bytes
  pub short : length bytes ≤ LIMIT
  pub comes : outcome bytes ≡ cause
  pub no_read_failed : ¬ Rose reads reads_now
  pub no_write_failed : ¬ Rose writes writes_now

-- where this is what the input comes to, and no end failed, the status is this one or want of memory
abbrev pub EndsIn : ℕ → Option Cause → ℕ → Option (List ℕ) → (reads reads_now writes writes_now : ℕ) → Type 0
EndsIn wanted cause status left reads reads_now writes writes_now = (bytes : List ℕ) → IsUntroubled left bytes cause reads reads_now writes writes_now → (status ≡ wanted) ⊎ (status ≡ 5)
