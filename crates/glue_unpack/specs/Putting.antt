-- What was put into a folder.
use Rattle.std.specs.Prelude.{◌≡◌, List, ◌++◌, Option, Some, None}
use Rattle.glue_ends.specs.declared.plan.PlannedFile.{PlannedFile}
use Rattle.glue_unpack.specs.declared.file.PutFile.{PutFile}

-- a planned file as a folder keeps it
abbrev pub put_of : PlannedFile → PutFile
put_of file = record { path = file.path; bytes = file.bytes }

-- where the folder tells what was put, these files came behind those before
abbrev pub Puts : Option (List PutFile) → Option (List PutFile) → List PutFile → Type 0
Puts None new files = Unit {0}
Puts (Some before) None files = ⊥
Puts (Some before) (Some after) files = after ≡ before ++ files
