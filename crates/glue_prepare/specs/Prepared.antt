-- What is done to the settings and the module of a call between parsing and lowering.
use Rattle.std.specs.Prelude.{◌≡◌, ℕ, ◌+◌, Bool, true, false, not, ◌&&◌, ◌||◌, if◌then◌else◌, List, [], ◌∷◌, map, codes, Option, Some, None, option_map, unwrap_or, slice_get, Result, Ok, Err}
use Rattle.std.specs.List.{list_any}
use Rattle.std.specs.Option.{option_or, option_flatten}
use Rattle.std.specs.Str.{bytes_eq}
use Rattle.wasm_core.specs.declared.types.Import.{Import}
use Rattle.wasm_core.specs.declared.types.ImportKind.{ImportKind}
use Rattle.wasm_core.specs.declared.types.ImportKind.TheVariants as kinds
use Rattle.wasm_core.specs.declared.types.Tag.{Tag}
use Rattle.wasm_core.specs.ids.TagId.{TagId}
use Rattle.wasm_core.specs.entries.Custom.{Custom}
use Rattle.wasm_core.specs.entries.Export.{Export}
use Rattle.wasm_core.specs.entries.ExportItem.TheVariants as items
use Rattle.wasm_core.specs.Contents.{Contents, IsLive}
use Rattle.wasm_core.specs.Edits.{is_named, without_custom, without_export, told_feature, imported_tag, localized, with_export, with_processed_by}
use Rattle.glue_shared.specs.Names.{is_emscripten}
use Rattle.glue_shared.specs.Roots.{is_entry}
use Rattle.glue_shared.specs.declared.settings.Settings.{Settings}
use Rattle.glue_shared.specs.declared.settings.Target.{Target}
use Rattle.glue_shared.specs.declared.settings.Target.TheVariants as target
use Rattle.glue_faults.specs.declared.fault.Fault.{Fault}
use Rattle.glue_faults.specs.declared.fault.Fault.TheVariants as faults
use Rattle.glue_prepare.specs.declared.prepared.Prepared.{Prepared}

-- ---- exports by name

-- an export of this name
abbrev pub is_export_named : List ℕ → Option Export → Bool
is_export_named name None = false
is_export_named name (Some e) = bytes_eq e.name name

-- the module has an export of this name
abbrev pub has_export : List ℕ → Contents → Bool
has_export name m = list_any (is_export_named name) m.exports

-- ---- the marker

-- the name of the custom section of a module that is made for Emscripten
abbrev pub marker : List ℕ
marker = codes "__wasm_bindgen_emscripten_marker"

-- the target is Emscripten where the module has the marker
unfoldable pub with_marked_target : Contents → Settings → Settings
with_marked_target m s = if list_any (is_named marker) m.customs then record s { target = target.Emscripten } else s

-- ---- features

-- a section says which features the module uses
abbrev pub has_features : List Custom → Bool
has_features customs = list_any (is_named (codes "target_features")) customs

-- no section says which features the module uses, and it exports what one with reference types does
unfoldable pub are_features_missing : Contents → Bool
are_features_missing m = not (has_features m.customs) && has_export (codes "__externref_table_alloc") m

-- the section says that the module uses the feature
abbrev pub uses : List ℕ → Contents → Bool
uses feature m = unwrap_or (told_feature feature m.customs) false

-- the module uses reference types, as far as can be told
abbrev pub uses_references : Contents → Bool
uses_references m = uses (codes "reference-types") m || are_features_missing m

-- what the module uses is on; what is on stays so
unfoldable pub with_features : Contents → Settings → Settings
with_features m s = record s { externref = s.externref || uses_references m; multi_value = s.multi_value || uses (codes "multivalue") m }

-- ---- tests of the target

-- a browser, by an ES module
abbrev pub is_web : Target → Bool
is_web (target.Bundler browser_only) = false
is_web target.Web = true
is_web (target.NoModules global) = false
is_web (target.Node es_module) = false
is_web target.Deno = false
is_web target.Module = false
is_web target.Emscripten = false

-- the files can start the module anew: those of a browser's ES module, of CommonJS, and of a source phase import
abbrev pub can_reset : Target → Bool
can_reset (target.Bundler browser_only) = false
can_reset target.Web = true
can_reset (target.NoModules global) = false
can_reset (target.Node es_module) = not es_module
can_reset target.Deno = false
can_reset target.Module = true
can_reset target.Emscripten = false

-- steps that may each end in a fault
infixl 10 ◌>>◌
abbrev pub ◌>>◌ : {B : Type 0} → Result (Unit {0}) Fault → Result B Fault → Result B Fault
Ok done >> next = next
Err fault >> next = Err fault

-- a fault where the test holds
abbrev pub refuse_where : Bool → Fault → Result (Unit {0}) Fault
refuse_where test fault = if test then Err fault else Ok tt

-- the tests of a target: in a browser's ES module nothing is exported as `default`, and what is to start the module anew can do so
unfoldable pub target_tests : Settings → Contents → Result (Unit {0}) Fault
target_tests s m = do
  refuse_where (is_web s.target && has_export (codes "default") m) faults.DefaultExport
  refuse_where (s.reset_state && not (can_reset s.target)) faults.ResetStateTarget

-- ---- exports of the linker

-- the name of what a linker exports for itself
abbrev pub is_linker_name : List ℕ → Bool
is_linker_name name = bytes_eq name (codes "__heap_base") || bytes_eq name (codes "__data_end") || bytes_eq name (codes "__indirect_function_table")

-- such an export
abbrev pub is_linker_export : Option Export → Bool
is_linker_export None = false
is_linker_export (Some e) = is_linker_name e.name

-- the place of an export, empty where it is one of the linker
abbrev pub without_linker_export : Option Export → Option Export
without_linker_export e = if is_linker_export e then None else e

-- the export at a place is dropped, where it is one of the linker
abbrev pub without_linker_export_at : ℕ → Contents → Contents
without_linker_export_at place m = if is_linker_export (option_flatten (slice_get m.exports place)) then without_export place m else m

-- the places of the linker's exports are empty
unfoldable pub without_linker_exports : Contents → Contents
without_linker_exports m = record m { exports = map without_linker_export m.exports }

-- they stay where that is asked for, and for Emscripten
abbrev pub with_wanted_exports : Bool → Settings → Contents → Contents
with_wanted_exports keep_lld_exports s m = if keep_lld_exports || is_emscripten s.target then m else without_linker_exports m

-- ---- the tag of C++ exceptions

-- `__cpp_exception` of the module `env`
abbrev pub is_exception_name : Import → Bool
is_exception_name i = bytes_eq i.«module» (codes "env") && bytes_eq i.name (codes "__cpp_exception")

-- the tag that is brought in, where it is an entry
abbrev pub live_tag : List (Option Tag) → ImportKind → Option TagId
live_tag tags (kinds.Tag id) = if is_entry (slice_get tags id.0) then Some id else None
live_tag tags other = None

-- the tag that an import of that name brings in
abbrev pub exception_tag : List (Option Tag) → Option Import → Option TagId
exception_tag tags None = None
exception_tag tags (Some i) = if is_exception_name i then live_tag tags i.kind else None

-- the place of the first import that brings one in, and that tag; the first of these imports stands at the given place
abbrev pub first_exception : List (Option Tag) → ℕ → List (Option Import) → Option (ℕ × TagId)
first_exception tags place [] = None
first_exception tags place (i ∷ imports) = option_or (option_map (λ tag. (place, tag)) (exception_tag tags i)) (first_exception tags (place + 1) imports)

-- the import at a place brings in this tag, which is an entry
pub record IsTagOf (m : Contents) (place : ℕ) (tag : ℕ) : Type 0 where
  pub brought : imported_tag (slice_get m.imports place) ≡ Some tag
  pub live : IsLive m.tags tag

-- a tag, brought in at a place, is the module's own instead, and exported as that of C++ exceptions
abbrev pub with_tag_owned : Option (ℕ × TagId) → Contents → Contents
with_tag_owned None m = m
with_tag_owned (Some e) m = with_export (codes "__cpp_exception") (items.Tag e.1) (localized e.0 m)

-- the tag of the first import of C++ exceptions is the module's own, and exported
unfoldable pub with_own_exception : Contents → Contents
with_own_exception m = with_tag_owned (first_exception m.tags 0 m.imports) m

-- ---- the steps of a call

-- the entry `wasm-bindgen` 0.2.130 among those that processed the module
abbrev pub with_producer : Contents → Contents
with_producer m = with_processed_by (codes "wasm-bindgen") (codes "0.2.130") m

-- What the lowering is handed of settings and a module that are fit for each other: the module without the linker's exports, with its
-- own tag of C++ exceptions, and with `wasm-bindgen` among its producers.
abbrev pub finished : Bool → Settings → Contents → Prepared
finished keep_lld_exports s m = record {
  settings = s;
  «module» = with_producer (with_own_exception (with_wanted_exports keep_lld_exports s m));
  features_missing = are_features_missing m;
}

-- The first fault of a call's settings and module, or what the lowering is handed. The module loses its marker, which says for which
-- target it is; then the settings get the features that it uses; then the target is tested, and the module is finished.
unfoldable pub prepared : Bool → Settings → Contents → Result Prepared Fault
prepared keep_lld_exports s m = do
  let unmarked = without_custom marker m
  let settings = with_features unmarked (with_marked_target m s)
  target_tests settings unmarked
  Ok (finished keep_lld_exports settings unmarked)
