-- The import lines of described names.
use Rattle.std.specs.Prelude.{◌≡◌, ℕ, List, [], ◌∷◌, ◌++◌, map, filter, codes, Option, Some, None, option_map, unwrap_or}
use Rattle.std.specs.Fmt.{decimal}
use Rattle.std.specs.List.{filter_map}
use Rattle.std.specs.Ordering.{nat_cmp}
use Rattle.std.specs.declared.cmp.Ordering.{Ordering}
use Rattle.std.specs.Str.{bytes_eq}
use Rattle.std.specs.Cmp.Lexicographic.{slice_cmp}
use Rattle.values.specs.Map.{look_up, AreInOrder}
use Rattle.glue_words.specs.declared.item.Item.{Item}
use Rattle.glue_shared.specs.declared.import.JsImportName.{JsImportName}
use Rattle.glue_shared.specs.declared.import.JsImportName.TheVariants as names
use Rattle.glue_lines.specs.declared.form.LineForm.{LineForm}
use Rattle.glue_lines.specs.Lines.{LineEntry, import_line}

-- a described name, and the name that the glue file has for it
abbrev pub Imported : Type 0
Imported = JsImportName × List ℕ

-- the order of texts by their bytes
abbrev pub text_order : List ℕ → List ℕ → Ordering
text_order = slice_cmp nat_cmp

-- the module that is handed in with the description under a name
abbrev pub local_path : List ℕ → List ℕ
local_path name = codes "./snippets/" ++ name

-- the module of a piece of JavaScript of a crate
abbrev pub inline_path : List ℕ → ℕ → List ℕ
inline_path from index = codes "./snippets/" ++ (from ++ (codes "/inline" ++ (decimal index ++ codes ".js")))

-- the module that a described name comes from, and its name there; none of a name of the host
abbrev pub source_of : JsImportName → Option (List ℕ × List ℕ)
source_of (names.Global name) = None
source_of (names.Module path name) = Some (path, name)
source_of (names.LocalModule path name) = Some (local_path path, name)
source_of (names.InlineJs from index name) = Some (inline_path from index, name)
source_of (names.VendorPrefixed name prefixes) = None

-- the module that an entry stands for, and the entry; none of a name of the host
abbrev pub placed_entry : Imported → Option (List ℕ × LineEntry)
placed_entry import = option_map (λ source. (source.0, (source.1, import.1))) (source_of import.0)

-- the entries of described names, each with its module, in their order
abbrev pub placed_entries : List Imported → List (List ℕ × LineEntry)
placed_entries imports = filter_map placed_entry imports

-- the entries of a module, in order
abbrev pub entries_of : List ℕ → List (List ℕ × LineEntry) → List LineEntry
entries_of path placed = map (λ p. p.1) (filter (λ p. bytes_eq path p.0) placed)

-- entries, if there are any
abbrev pub some_entries : List LineEntry → Option (List LineEntry)
some_entries [] = None
some_entries (entry ∷ entries) = Some (entry ∷ entries)

-- Entries by their modules: these stand in the order of their bytes, each once, and exactly where it has entries; then
-- with all of them, in order.
pub record AreByModule (placed : List (List ℕ × LineEntry)) (lines : List (List ℕ × List LineEntry)) : Type 0 where
  pub in_order : AreInOrder text_order lines
  pub each : (path : List ℕ) → look_up text_order lines path ≡ some_entries (entries_of path placed)

-- the entries that lines have for a module
abbrev pub found_entries : List (List ℕ × List LineEntry) → List ℕ → List LineEntry
found_entries lines path = unwrap_or (look_up text_order lines path) []

-- lines by modules have these entries more, behind the others
abbrev pub AddsEntries : List (List ℕ × LineEntry) → (before after : List (List ℕ × List LineEntry)) → Type 0
AddsEntries more before after =
    (placed : List (List ℕ × LineEntry)) → AreByModule placed before → AreByModule (placed ++ more) after

-- the line of a module and its entries
abbrev pub line_of : LineForm → List ℕ × List LineEntry → Item
line_of f line = import_line f line.0 line.1

-- the items are the import lines of described names by their modules
pub record AreImportLines (f : LineForm) (imports : List Imported) (items : List Item) : Type 0 where
  pub lines : List (List ℕ × List LineEntry)
  pub by_module : AreByModule (placed_entries imports) lines
  pub items_are : items ≡ map (line_of f) lines
