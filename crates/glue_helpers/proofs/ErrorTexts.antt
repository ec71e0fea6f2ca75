-- The helper that hands what an import throws to the module: its texts are read, its names, and where it fits.
use Rattle.std.proofs.Common.{◌≡◌, ℕ, List, [], ◌∷◌, refl, true}
use Rattle.std.specs.Prelude.{codes, is_ok}
use Rattle.std.specs.List.{list_all}
use Rattle.glue_words.specs.Facts.{facts}
use Rattle.glue_words.specs.Ident.{is_ident}
use Rattle.glue_words.specs.Linking.{AreAmong}
use Rattle.glue_words.proofs.Belonging.{Context}
use Rattle.glue_words.proofs.Fitting.{Fits}
use Rattle.glue_marked.specs.Marked.{read_marked}
use Rattle.glue_marked.specs.Reads.{words_in}
use Rattle.glue_marked.proofs.Reading.{reading}
use Rattle.glue_helpers.specs.declared.errors.TheConstants as errors
use Rattle.glue_helpers.specs.Errors.{store_export, add_stand_in, handle_error_by_table, handle_error_by_heap}
use Rattle.glue_helpers.specs.Errors.{by_table_names, by_heap_names}
use Rattle.glue_helpers.specs.Items.{named_words}
use Rattle.glue_helpers.specs.Numbered.{add_name}
use Rattle.glue_helpers.specs.TextNames.{TextNames}
use Rattle.glue_helpers.proofs.Numbered.{numbered_name, ident_before}
use Rattle.glue_helpers.proofs.Telling.{Tells, Holds, named_holds, named_fits}

-- ---- the texts are read

pub by_table_reads : is_ok (read_marked errors.HANDLE_ERROR_BY_TABLE.now) ≡ true
unfolding reading
by_table_reads = refl

pub by_heap_reads : is_ok (read_marked errors.HANDLE_ERROR_BY_HEAP.now) ≡ true
unfolding reading
by_heap_reads = refl

-- ---- what they tell of their names, by their stand-ins

abbrev told : List (List ℕ) → TextNames
told uses = record { binds = codes "handleError" ∷ []; uses = uses; hosts = []; takes = codes "$store" ∷ [] }

abbrev by_table_told : TextNames
by_table_told = told (codes "$add" ∷ codes "wasm" ∷ [])

by_table_tells : Tells (words_in errors.HANDLE_ERROR_BY_TABLE.now) by_table_told
unfolding reading
by_table_tells = refl

abbrev by_heap_told : TextNames
by_heap_told = told (codes "wasm" ∷ codes "addHeapObject" ∷ [])

by_heap_tells : Tells (words_in errors.HANDLE_ERROR_BY_HEAP.now) by_heap_told
unfolding reading
by_heap_tells = refl

-- ---- its names, and where it fits

module _ (store : List ℕ) where
  pub by_table_holds : (table : ℕ) → Holds (handle_error_by_table table store).words (by_table_names table store)
  unfolding named_words
  by_table_holds table =
      named_holds (words_in errors.HANDLE_ERROR_BY_TABLE.now) by_table_told by_table_tells (add_stand_in table)
      (store_export store)

  add_idents : (table : ℕ) → list_all is_ident (add_name table ∷ []) ≡ true
  unfolding reading
  add_idents table =
      ident_before (add_name table) [] (numbered_name (codes "addToExternrefTable") table refl refl) refl

  pub by_table_fits : (table : ℕ) (c : Context) → AreAmong (by_table_names table store).uses c.declared
      → AreAmong (by_table_names table store).takes c.exports
      → Fits c (facts (handle_error_by_table table store).words)
  unfolding reading named_words
  by_table_fits table c uses takes =
      named_fits (words_in errors.HANDLE_ERROR_BY_TABLE.now) by_table_told by_table_tells (add_stand_in table)
      (store_export store) c (add_idents table) refl refl uses tt takes

  pub by_heap_holds : Holds (handle_error_by_heap store).words (by_heap_names store)
  unfolding named_words
  by_heap_holds =
      named_holds (words_in errors.HANDLE_ERROR_BY_HEAP.now) by_heap_told by_heap_tells [] (store_export store)

  pub by_heap_fits : (c : Context) → AreAmong (by_heap_names store).uses c.declared
      → AreAmong (by_heap_names store).takes c.exports → Fits c (facts (handle_error_by_heap store).words)
  unfolding reading named_words
  by_heap_fits c uses takes =
      named_fits (words_in errors.HANDLE_ERROR_BY_HEAP.now) by_heap_told by_heap_tells [] (store_export store) c
      refl refl refl uses tt takes
