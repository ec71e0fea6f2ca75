-- What a text comes to that is read as a listing.
use Rattle.std.specs.Prelude.{◌≡◌, ◌≢◌, ◌<◌, ◌^◌, ℕ, List, [], ◌∷◌, ◌++◌, length, IsUtf8}
use Rattle.hex.specs.Hex.{IsBytes}
use Rattle.glue_ends.specs.Listing.{entry, listing}
use Rattle.glue_ends.specs.declared.plan.PlannedFile.{PlannedFile}
use Rattle.file_listing.specs.Parts.{Lacks}

-- a file that a listing can tell: its path is text of one line, and its bytes are bytes, as many as a machine can hold
pub record IsListable (file : PlannedFile) : Type 0 where
  pub text : IsUtf8 file.path
  pub line : Lacks 10 file.path
  pub bytes : IsBytes file.bytes
  pub few : length file.bytes < 2 ^ 64

-- each file is one
abbrev pub AreListable : List PlannedFile → Type 0
AreListable [] = Unit {0}
AreListable (file ∷ files) = IsListable file × AreListable files

-- a file's part stands at the head of a text
pub record IsEntryOf (text : List ℕ) (file : PlannedFile) (rest : List ℕ) : Type 0 where
  pub listable : IsListable file
  pub whole : text ≡ entry file ++ rest

-- no file's part stands there
abbrev pub HasNoEntry : List ℕ → Type 0
HasNoEntry text = (file : PlannedFile) (rest : List ℕ) → IsEntryOf text file rest → ⊥

-- up to this place a text is the listing of some files, and it goes on with what is no file's part
pub record IsFault (text : List ℕ) (place : ℕ) : Type 0 where
  pub files : List PlannedFile
  pub rest : List ℕ
  pub listable : AreListable files
  pub whole : text ≡ listing files ++ rest
  pub at : place ≡ length (listing files)
  pub more : rest ≢ []
  pub none : HasNoEntry rest
