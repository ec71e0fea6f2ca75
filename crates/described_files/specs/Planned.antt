-- The planned files of snippets and local modules.
use Rattle.std.specs.Prelude.{ℕ, ◌+◌, List, [], ◌∷◌, ◌++◌, map, codes, true}
use Rattle.std.specs.List.{flat_map}
use Rattle.std.specs.Fmt.{decimal}
use Rattle.glue_ends.specs.declared.plan.PlannedFile.{PlannedFile}

-- a file of a text, as it is
abbrev pub text_file : List ℕ → List ℕ → PlannedFile
text_file path text = record { path = path; bytes = text; is_text = true }

-- the file of a snippet of a crate, at its place there
abbrev pub inline_file : List ℕ → ℕ → List ℕ → PlannedFile
inline_file name place text = text_file (codes "snippets/" ++ (name ++ (codes "/inline" ++ (decimal place ++ codes ".js")))) text

-- the files of the snippets of a crate, from a place on
abbrev pub inline_files : List ℕ → ℕ → List (List ℕ) → List PlannedFile
inline_files name place [] = []
inline_files name place (text ∷ texts) = inline_file name place text ∷ inline_files name (place + 1) texts

-- the files of the snippets of all crates
abbrev pub snippet_files : List (List ℕ × List (List ℕ)) → List PlannedFile
snippet_files snippets = flat_map (λ entry. inline_files entry.0 0 entry.1) snippets

-- the file of a local module
abbrev pub local_file : List ℕ × List ℕ → PlannedFile
local_file entry = text_file (codes "snippets/" ++ entry.0) entry.1

-- the files of all local modules
abbrev pub local_files : List (List ℕ × List ℕ) → List PlannedFile
local_files modules = map local_file modules
