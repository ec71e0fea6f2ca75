-- What the editing calls make of a module is one.
use Rattle.std.proofs.Common.{◌≡◌, ℕ, Bool, true, List, [], ◌∷◌, ◌++◌, set, Option, Some, None, refl, arith, inl, inr}
use Rattle.std.specs.Prelude.{not, is_some, codes, slice_get}
use Rattle.std.specs.List.{AllByRecursion, filter}
use Rattle.std.specs.Char.{encode_utf8}
use Rattle.std.specs.Str.{is_utf8, chars}
use Rattle.std.proofs.lemmas.Bool.{cases_Bool}
use Rattle.wasm_types.specs.declared.ids.FuncId.{FuncId}
use Rattle.wasm_file.specs.declared.entries.Custom.{Custom}
use Rattle.wasm_file.specs.declared.entries.Export.{Export}
use Rattle.wasm_file.specs.declared.entries.ExportItem.{ExportItem}
use Rattle.wasm_file.specs.declared.entries.ExportItem.TheVariants as items
use Rattle.wasm_file.specs.declared.entries.ProducerField.{ProducerField}
use Rattle.wasm_file.specs.declared.entries.ProducerValue.{ProducerValue}
use Rattle.wasm_file.specs.Customs.{is_same_text}
use Rattle.wasm_file_laws.specs.CustomFits.{FitsValue, FitsField, FitsFields}
use Rattle.wasm_file_laws.specs.FileFits.{FitsName}
use Rattle.wasm_reach.specs.declared.things.Thing.TheVariants as things
use Rattle.wasm_core.specs.Contents.{Contents, IsEntry}
use Rattle.wasm_core.specs.Edits.{first_changed, with_version, new_field, with_field, with_processed_by, is_named, without_custom, IsLiveItem, with_export, without_export, without_start}
use Rattle.wasm_collect.specs.Reach.{entry_of, entry_at, item_thing}
use Rattle.wasm_core_laws.specs.ModuleFits.{Stands, AllThere, FitsExportEntry, IsStart, FitsCustomEntry, IsModule}
use Rattle.wasm_core_laws.proofs.Carried.{export_fits, start_fits, type_of_alike, Extends, FitIn, fit_in, alike_same, alike_extends, links_same, still_linked}
use Rattle.wasm_core_laws.proofs.Everywhere.{all_passing}
use Rattle.wasm_core_laws.proofs.Entries.{there_weaker, there_set, there_push}

-- ---- exports, the start function, custom sections and producers

-- a module with others that fit is one
rest_changed : (m : Contents) (e : List (Option Export)) (s : Option FuncId) (c : List Custom) (p : List ProducerField) → IsModule m → AllThere (FitsExportEntry m) e → IsStart m s → AllByRecursion FitsCustomEntry c → FitsFields p → IsModule (record m { exports = e; start = s; customs = c; producers = p })
rest_changed m e s c p h exports start customs producers =
    let n : Contents = record m { exports = e; start = s; customs = c; producers = p } in
    let ext : Extends m n = alike_extends m n (alike_same m n refl refl refl refl refl refl refl refl) in
    let k : FitIn n m = fit_in m n ext h in record {
      types = h.types;
      funcs = k.funcs;
      tables = h.tables;
      memories = h.memories;
      globals = k.globals;
      tags = k.tags;
      imports = k.imports;
      exports = there_weaker (FitsExportEntry m) (FitsExportEntry n) (λ x. export_fits m n ext.carries x (λ t i. ext.stand t)) e exports;
      elems = k.elems;
      segments = k.segments;
      start = start_fits m n s (λ func is s. (ext.stand (things.Func func.0) s, type_of_alike m n refl (entry_at m.funcs func.0))) start;
      customs = customs;
      name = h.name;
      producers = producers;
      order = record {
        linked = still_linked m n (links_same m n refl refl refl refl refl) 0 m.imports m.imports (λ j y is. (y, is, refl)) h.order.linked;
        funcs = h.order.funcs;
        tables = h.order.tables;
        memories = h.order.memories;
        globals = h.order.globals;
        tags = h.order.tags;
      };
    }

-- a live entry stands
live_stands : {A : Type 0} (o : Option (Option A)) → IsEntry o → is_some (entry_of o) ≡ true
live_stands (Some (Some x)) h = refl
live_stands (Some None) h = absurd h
live_stands None h = absurd h

-- a live item stands
live_item_stands : (m : Contents) (item : ExportItem) → IsLiveItem m item → Stands m (item_thing item)
live_item_stands m (items.Func id) h = live_stands (slice_get m.funcs id.0) h
live_item_stands m (items.Table id) h = live_stands (slice_get m.tables id.0) h
live_item_stands m (items.Memory id) h = live_stands (slice_get m.memories id.0) h
live_item_stands m (items.Global id) h = live_stands (slice_get m.globals id.0) h
live_item_stands m (items.Tag id) h = live_stands (slice_get m.tags id.0) h

pub with_export_is_module : (m : Contents) (name : List ℕ) (item : ExportItem) → IsModule m → FitsName name → IsLiveItem m item → IsModule (with_export name item m)
unfolding with_export
with_export_is_module m name item h fits there =
    let e : Export = record { name = name; item = item } in
    rest_changed m (m.exports ++ Some e ∷ []) m.start m.customs m.producers h
    (there_push (FitsExportEntry m) m.exports e (record { name_fits = fits; item_stands = live_item_stands m item there }) h.exports) h.start h.customs h.producers

pub without_export_is_module : (m : Contents) (i : ℕ) → IsModule m → IsModule (without_export i m)
unfolding without_export
without_export_is_module m i h = rest_changed m (set m.exports i None) m.start m.customs m.producers h (there_set (FitsExportEntry m) m.exports i None tt h.exports) h.start h.customs h.producers

pub without_start_is_module : (m : Contents) → IsModule m → IsModule (without_start m)
unfolding without_start
without_start_is_module m h = rest_changed m m.exports None m.customs m.producers h h.exports tt h.customs h.producers

pub without_custom_is_module : (m : Contents) (name : List ℕ) → IsModule m → IsModule (without_custom name m)
unfolding without_custom
without_custom_is_module m name h = rest_changed m m.exports m.start (filter (λ c. not (is_named name c)) m.customs) m.producers h h.exports h.start (all_passing FitsCustomEntry (λ c. not (is_named name c)) m.customs h.customs) h.producers

-- ---- producers

-- with the first that passes a test changed, or one more
first_changed_all : {A : Type 0} (P : A → Type 0) (test : A → Bool) (change : A → A) (new : A) → P new
    → ((x : A) → P x → P (change x)) → (xs : List A) → AllByRecursion P xs
    → AllByRecursion P (first_changed test change new xs)
unfolding first_changed
first_changed_all P test change new h f [] all = (h, tt)
first_changed_all P test change new h f (x ∷ xs) all = elim (cases_Bool (test x)) [
  | inl e ↦ rw e (f x all.0, all.1)
  | inr e ↦ rw e (all.0, first_changed_all P test change new h f xs all.1)
]

module _ (name version : List ℕ) (n : FitsName name) (v : FitsName version) where
  -- a name and a version that are texts make a value
  value_fits : FitsValue (record { name = name; version = version })
  value_fits = record { name_fits = n; version_fits = v }

  versions_fit : (xs : List ProducerValue) → AllByRecursion FitsValue xs → AllByRecursion FitsValue (with_version name version xs)
  unfolding with_version
  versions_fit = first_changed_all FitsValue (λ x. is_same_text x.name name) (λ x. record x { version = version })
      (record { name = name; version = version }) value_fits
      (λ x h. record { name_fits = h.name_fits; version_fits = v })

  fields_fit : (field : List ℕ) (fs : List ProducerField) → FitsName field → FitsFields fs → FitsFields (with_field field name version fs)
  unfolding with_field
  fields_fit field fs fits all =
      first_changed_all FitsField (λ f. is_same_text f.name field)
      (λ f. record f { values = with_version name version f.values })
      (new_field field name version) (record { name_fits = fits; values_fit = (value_fits, tt) })
      (λ f h. record { name_fits = h.name_fits; values_fit = versions_fit f.values h.values_fit }) fs all

-- this name of a field is a text
processed_by_fits : FitsName (codes "processed-by")
unfolding is_utf8 chars encode_utf8
processed_by_fits = (refl, omega arith)

pub with_processed_by_is_module : (m : Contents) (name version : List ℕ) → IsModule m → FitsName name → FitsName version → IsModule (with_processed_by name version m)
unfolding with_processed_by
with_processed_by_is_module m name version h n v = rest_changed m m.exports m.start m.customs (with_field (codes "processed-by") name version m.producers) h h.exports h.start h.customs (fields_fit name version n v (codes "processed-by") m.producers processed_by_fits h.producers)
