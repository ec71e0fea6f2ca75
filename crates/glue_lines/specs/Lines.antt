-- Lines that take a module: an import line takes names of it, a foreign line the whole of it.
use Rattle.std.specs.Prelude.{ℕ, Bool, true, false, List, [], ◌∷◌, ◌++◌, codes}
use Rattle.std.specs.List.{flat_map}
use Rattle.std.specs.Str.{bytes_eq}
use Rattle.glue_words.specs.declared.word.Word.{Word}
use Rattle.glue_words.specs.declared.word.Word.TheVariants as w
use Rattle.glue_words.specs.declared.item.Item.{Item}
use Rattle.glue_words.specs.declared.item.Role.TheVariants.{Import, Foreign}
use Rattle.glue_words.specs.declared.key.TheConstants as key
use Rattle.glue_words.specs.declared.punct.TheConstants as punct
use Rattle.glue_words.specs.Ident.{numbered}
use Rattle.glue_words.specs.Words.{space, line_feed}
use Rattle.glue_lines.specs.declared.form.LineForm.{LineForm}
use Rattle.glue_lines.specs.declared.form.LineForm.TheVariants as form

-- a name in a module, and the name that the glue file has for it
abbrev pub LineEntry : Type 0
LineEntry = List ℕ × List ℕ

-- `import `, or `const `
abbrev pub start_words : LineForm → List Word
start_words form.Es = w.Key key.IMPORT ∷ space ∷ []
start_words form.CommonJs = w.Key key.CONST ∷ space ∷ []

-- `require("path")`
abbrev pub required_words : List ℕ → List Word
required_words path =
    w.Host (codes "require") true ∷ w.Punct punct.OPEN_PAREN ∷ w.Text path ∷ w.Punct punct.CLOSE_PAREN ∷ []

-- ` from "path"`, or ` = require("path")`
abbrev pub source_words : LineForm → List ℕ → List Word
source_words form.Es path = space ∷ w.Key key.FROM ∷ space ∷ w.Text path ∷ []
source_words form.CommonJs path = space ∷ w.Punct punct.ASSIGN ∷ space ∷ required_words path

-- the module, and the end of the line
abbrev pub end_words : LineForm → List ℕ → List Word
end_words f path = source_words f path ++ w.Punct punct.SEMICOLON ∷ line_feed ∷ []

-- ` as `, or `: `
abbrev pub link_words : LineForm → List Word
link_words form.Es = space ∷ w.Key key.AS ∷ space ∷ []
link_words form.CommonJs = w.Punct punct.COLON ∷ space ∷ []

-- an entry, where both its names are one, and where they aren't
abbrev pub entry_with : LineForm → Bool → LineEntry → List Word
entry_with f true entry = w.Bind entry.1 ∷ []
entry_with f false entry = w.Outer entry.0 ∷ link_words f ++ w.Bind entry.1 ∷ []

-- an entry
abbrev pub entry_words : LineForm → LineEntry → List Word
entry_words f entry = entry_with f (bytes_eq entry.0 entry.1) entry

-- an entry after another
abbrev pub next_entry : LineForm → LineEntry → List Word
next_entry f entry = w.Punct punct.COMMA ∷ space ∷ entry_words f entry

-- entries after another
abbrev pub further_entries : LineForm → List LineEntry → List Word
further_entries f entries = flat_map (next_entry f) entries

-- entries, with `, ` between them
abbrev pub entries_words : LineForm → List LineEntry → List Word
entries_words f [] = []
entries_words f (entry ∷ entries) = entry_words f entry ++ further_entries f entries

-- `import { entries } from "path";`, or `const { entries } = require("path");`
abbrev pub import_words : LineForm → List ℕ → List LineEntry → List Word
import_words f path entries =
    start_words f
    ++ (w.Punct punct.OPEN_BRACE ∷ space
    ∷ (entries_words f entries ++ (space ∷ w.Punct punct.CLOSE_BRACE ∷ end_words f path)))

-- the import line of a module
abbrev pub import_line : LineForm → List ℕ → List LineEntry → Item
import_line f path entries = record { role = Import; words = import_words f path entries }

-- `* as name`, or `name`
abbrev pub whole_words : LineForm → List ℕ → List Word
whole_words form.Es name = w.Punct punct.TIMES ∷ space ∷ w.Key key.AS ∷ space ∷ w.Bind name ∷ []
whole_words form.CommonJs name = w.Bind name ∷ []

-- the name of the foreign module of a number
abbrev pub foreign_name : ℕ → List ℕ
foreign_name number = numbered (codes "import") number

-- `import * as name from "path";`, or `const name = require("path");`
abbrev pub foreign_words : LineForm → List ℕ → List ℕ → List Word
foreign_words f name path = start_words f ++ whole_words f name ++ end_words f path

-- the foreign line of a number
abbrev pub foreign_line : LineForm → ℕ → List ℕ → Item
foreign_line f number path = record { role = Foreign number; words = foreign_words f (foreign_name number) path }
