-- Re-exports of what can't be exported again.
use Rattle.std.specs.Prelude.{◌≡◌, ℕ, Bool, true, false, not, ◌&&◌, ◌||◌, is_some, List, [], ◌∷◌, Option, option_map, if◌then◌else◌}
use Rattle.std.specs.BTreeMap.{insert_entry}
use Rattle.std.specs.List.{list_any}
use Rattle.std.specs.Ordering.{is_eq}
use Rattle.std.specs.Str.{bytes_eq}
use Rattle.std.specs.declared.cmp.Ordering.{Ordering}
use Rattle.values.specs.Map.{look_up}
use Rattle.glue_shared.specs.Names.{is_none}
use Rattle.glue_shared.specs.Paths.{Path}
use Rattle.glue_shared.specs.contracts.import.JsImportNameOrd.TheImpl as by_fields
use Rattle.glue_shared.specs.declared.aux.WasmBindgenAux.{WasmBindgenAux}
use Rattle.glue_shared.specs.declared.import.JsImport.{JsImport}
use Rattle.glue_shared.specs.declared.import.JsImportName.{JsImportName}
use Rattle.glue_shared.specs.declared.import.JsImportName.TheVariants.{Global, Module, LocalModule, InlineJs, VendorPrefixed}
use Rattle.glue_shared.specs.declared.settings.Settings.{Settings}
use Rattle.glue_targets.specs.RoleWords.{is_es_module}
use Rattle.glue_faults.specs.declared.fault.Fault.{Fault}
use Rattle.glue_faults.specs.declared.fault.Fault.TheVariants as faults
use Rattle.glue_faults.specs.First.{first_after}
use Rattle.glue_published.specs.declared.things.PublishedThing.{PublishedThing}
use Rattle.glue_published.specs.Things.{published_things}

-- a name, its import, and whether it is declared in TypeScript
abbrev pub Reexport : Type 0
Reexport = List ℕ × JsImport × Bool

-- no line of the glue file binds the name: a global, or where imports are left out a name from a module
abbrev pub is_outside : (omitted : Bool) → JsImportName → Bool
is_outside omitted (Global name) = true
is_outside omitted (Module from name) = omitted
is_outside omitted (LocalModule from name) = omitted
is_outside omitted (InlineJs from index name) = omitted
is_outside omitted (VendorPrefixed name prefixes) = false

-- an import that nothing can re-export: it has fields, or on an ES module target nothing binds it
abbrev pub is_bad_import : Settings → JsImport → Bool
is_bad_import settings import = not (is_none import.fields) || (is_es_module settings.target && is_outside settings.omit_imports import.name)

-- ---- re-exports of one import

-- imports by the variants of their names, and then by these names' parts in order
abbrev pub import_order : JsImportName → JsImportName → Ordering
import_order = by_fields.ghosts.cmp

-- the same variant with the same parts
abbrev pub is_same : JsImportName → JsImportName → Bool
is_same a b = is_eq (import_order a b)

-- the path begins with the name and has more segments
abbrev pub is_below : List ℕ → Path → Bool
is_below name [] = false
is_below name (segment ∷ path) = not (is_none path) && bytes_eq segment name

-- something is published below the name
abbrev pub has_members : List PublishedThing → List ℕ → Bool
has_members things name = list_any (λ t. is_below name t.path) things

-- A later re-export is of the import of an earlier one, and something is published below the name of one of them, for which
-- `members` is the test. What stands before the first bad re-export has no fields, so that the name alone tells imports apart.
abbrev pub share_members : (members : List ℕ → Bool) → Reexport → Reexport → Bool
share_members members earlier later = is_same later.1.name earlier.1.name && (members earlier.0 || members later.0)

-- a re-export that can't stand behind these
abbrev pub is_bad_reexport : Settings → (members : List ℕ → Bool) → List Reexport → Reexport → Bool
is_bad_reexport settings members before r = is_bad_import settings r.1 || list_any (λ earlier. share_members members earlier r) before

-- The first re-export that has fields, on an ES module target names what no line of the glue file binds, or is a second one of an
-- import where something is published below one of the two.
abbrev pub bad_reexport : Settings → WasmBindgenAux → Option Fault
bad_reexport settings aux =
    option_map (λ r. faults.BadReexport r.0) (first_after (is_bad_reexport settings (has_members (published_things settings aux))) [] aux.reexports)

-- ---- how it is found

-- an import is in the set
abbrev pub holds_import : List (JsImportName × Bool) → JsImportName → Bool
holds_import set name = is_some (look_up import_order set name)

-- the imports of re-exports, and of those below which something is published
pub record AreSeen (seen_set with_members_set : List (JsImportName × Bool)) (members : List ℕ → Bool) (before : List Reexport) : Type 0 where
  pub seen : (name : JsImportName) → holds_import seen_set name ≡ list_any (λ r. is_same name r.1.name) before
  pub with_members : (name : JsImportName) → holds_import with_members_set name ≡ list_any (λ r. members r.0 && is_same name r.1.name) before

-- a re-export of an import that was seen, with members or that has members itself
abbrev pub meets_import : (seen_set with_members_set : List (JsImportName × Bool)) → (has_members : Bool) → JsImportName → Bool
meets_import seen_set with_members_set has_members name =
    holds_import with_members_set name || (has_members && holds_import seen_set name)

-- imports, with this one where a test holds
abbrev pub with_import : Bool → List (JsImportName × Bool) → JsImportName → List (JsImportName × Bool)
with_import test set name = if test then insert_entry import_order set name true else set
