-- The listing of planned files.
use Rattle.std.specs.Prelude.{ℕ, List, ◌++◌, length, Bool, true, false, codes}
use Rattle.std.specs.List.{flat_map}
use Rattle.std.specs.Fmt.{decimal}
use Rattle.hex.specs.Hex.{encode_lower}
use Rattle.glue_ends.specs.declared.plan.PlannedFile.{PlannedFile}

-- the word for the form of a file's bytes
abbrev pub form_word : Bool → List ℕ
form_word true = codes "text"
form_word false = codes "hex"

-- a file's bytes as they are listed
abbrev pub shown_bytes : Bool → List ℕ → List ℕ
shown_bytes true bytes = bytes
shown_bytes false bytes = encode_lower bytes

-- `file`, a path, a word and a count, with spaces between, and a line feed
unfoldable pub heading_text : List ℕ → List ℕ → ℕ → List ℕ
heading_text path word count = codes "file " ++ (path ++ (codes " " ++ (word ++ (codes " " ++ (decimal count ++ codes "\n")))))

-- a file's first line
abbrev pub heading : PlannedFile → List ℕ
heading f = heading_text f.path (form_word f.is_text) (length f.bytes)

-- a file's part of the listing
abbrev pub entry : PlannedFile → List ℕ
entry f = heading f ++ (shown_bytes f.is_text f.bytes ++ codes "\n")

-- the parts of all files in order
abbrev pub listing : List PlannedFile → List ℕ
listing files = flat_map entry files
