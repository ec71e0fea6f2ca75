-- The helpers that reach values by a table of references: their texts are read, their names, and where they fit.
use Rattle.std.proofs.Common.{◌≡◌, ℕ, List, [], ◌∷◌, refl, true}
use Rattle.std.specs.Prelude.{codes, is_ok}
use Rattle.values.specs.Lists.{IsIn}
use Rattle.glue_words.specs.Facts.{facts}
use Rattle.glue_words.specs.Linking.{AreAmong}
use Rattle.glue_words.proofs.Belonging.{Context}
use Rattle.glue_words.proofs.Fitting.{Fits}
use Rattle.glue_marked.specs.Marked.{read_marked}
use Rattle.glue_marked.specs.Reads.{words_in}
use Rattle.glue_marked.proofs.Reading.{reading}
use Rattle.glue_helpers.specs.declared.externref.TheConstants as externref
use Rattle.glue_helpers.specs.Items.{named_words}
use Rattle.glue_helpers.specs.Numbered.{add_name, get_name, take_name}
use Rattle.glue_helpers.specs.References.{own_name, table_export, alloc_exports, drop_exports, add_to_table}
use Rattle.glue_helpers.specs.References.{get_from_table, take_from_table, reference_names}
use Rattle.glue_helpers.proofs.Numbered.{numbered_name, ident_before}
use Rattle.glue_helpers.proofs.Telling.{Tells, Holds, named_holds, named_fits}

-- ---- the texts are read, and what they tell of their names, by their stand-ins

pub add_to_table_reads : is_ok (read_marked externref.ADD_TO_TABLE.now) ≡ true
unfolding reading
add_to_table_reads = refl

add_to_table_tells : Tells (words_in externref.ADD_TO_TABLE.now)
    (reference_names (codes "$name") (codes "$alloc" ∷ codes "$table" ∷ []))
unfolding reading
add_to_table_tells = refl

pub get_from_table_reads : is_ok (read_marked externref.GET_FROM_TABLE.now) ≡ true
unfolding reading
get_from_table_reads = refl

get_from_table_tells : Tells (words_in externref.GET_FROM_TABLE.now)
    (reference_names (codes "$name") (codes "$table" ∷ []))
unfolding reading
get_from_table_tells = refl

pub take_from_table_reads : is_ok (read_marked externref.TAKE_FROM_TABLE.now) ≡ true
unfolding reading
take_from_table_reads = refl

take_from_table_tells : Tells (words_in externref.TAKE_FROM_TABLE.now)
    (reference_names (codes "$name") (codes "$table" ∷ codes "$drop" ∷ []))
unfolding reading
take_from_table_tells = refl

-- ---- their names, and where they fit

module _ (table : ℕ) where
  pub add_to_table_holds : (export : List ℕ) (allocate : List ℕ)
      → Holds (add_to_table table export allocate).words (reference_names (add_name table) (allocate ∷ export ∷ []))
  unfolding named_words
  add_to_table_holds export allocate =
      named_holds (words_in externref.ADD_TO_TABLE.now)
      (reference_names (codes "$name") (codes "$alloc" ∷ codes "$table" ∷ [])) add_to_table_tells
      (own_name (add_name table)) (alloc_exports export allocate)

  pub add_to_table_fits : (export : List ℕ) (allocate : List ℕ) (c : Context) → IsIn (codes "wasm") c.declared
      → AreAmong (allocate ∷ export ∷ []) c.exports
      → Fits c (facts (add_to_table table export allocate).words)
  unfolding reading named_words
  add_to_table_fits export allocate c wasm takes =
      named_fits (words_in externref.ADD_TO_TABLE.now)
      (reference_names (codes "$name") (codes "$alloc" ∷ codes "$table" ∷ [])) add_to_table_tells
      (own_name (add_name table)) (alloc_exports export allocate) c
      (ident_before (add_name table) [] (numbered_name (codes "addToExternrefTable") table refl refl) refl)
      refl refl (wasm, tt) tt takes

  pub get_from_table_holds : (export : List ℕ)
      → Holds (get_from_table table export).words (reference_names (get_name table) (export ∷ []))
  unfolding named_words
  get_from_table_holds export =
      named_holds (words_in externref.GET_FROM_TABLE.now)
      (reference_names (codes "$name") (codes "$table" ∷ [])) get_from_table_tells
      (own_name (get_name table)) (table_export export)

  pub get_from_table_fits : (export : List ℕ) (c : Context) → IsIn (codes "wasm") c.declared
      → AreAmong (export ∷ []) c.exports
      → Fits c (facts (get_from_table table export).words)
  unfolding reading named_words
  get_from_table_fits export c wasm takes =
      named_fits (words_in externref.GET_FROM_TABLE.now)
      (reference_names (codes "$name") (codes "$table" ∷ [])) get_from_table_tells
      (own_name (get_name table)) (table_export export) c
      (ident_before (get_name table) [] (numbered_name (codes "getFromExternrefTable") table refl refl) refl)
      refl refl (wasm, tt) tt takes

  pub take_from_table_holds : (export : List ℕ) (free : List ℕ)
      → Holds (take_from_table table export free).words (reference_names (take_name table) (export ∷ free ∷ []))
  unfolding named_words
  take_from_table_holds export free =
      named_holds (words_in externref.TAKE_FROM_TABLE.now)
      (reference_names (codes "$name") (codes "$table" ∷ codes "$drop" ∷ [])) take_from_table_tells
      (own_name (take_name table)) (drop_exports export free)

  pub take_from_table_fits : (export : List ℕ) (free : List ℕ) (c : Context) → IsIn (codes "wasm") c.declared
      → AreAmong (export ∷ free ∷ []) c.exports
      → Fits c (facts (take_from_table table export free).words)
  unfolding reading named_words
  take_from_table_fits export free c wasm takes =
      named_fits (words_in externref.TAKE_FROM_TABLE.now)
      (reference_names (codes "$name") (codes "$table" ∷ codes "$drop" ∷ [])) take_from_table_tells
      (own_name (take_name table)) (drop_exports export free) c
      (ident_before (take_name table) [] (numbered_name (codes "takeFromExternrefTable") table refl refl) refl)
      refl refl (wasm, tt) tt takes
