-- The helpers that pass arrays: their texts are read, their names, and where they fit.
use Rattle.std.proofs.Common.{◌≡◌, ℕ, List, [], ◌∷◌, refl, true}
use Rattle.std.specs.Prelude.{codes, is_ok, pos}
use Rattle.std.specs.List.{list_all}
use Rattle.glue_words.specs.Facts.{facts}
use Rattle.glue_words.specs.Ident.{is_ident}
use Rattle.glue_words.specs.Linking.{AreAmong}
use Rattle.glue_words.proofs.Belonging.{Context}
use Rattle.glue_words.proofs.Fitting.{Fits}
use Rattle.glue_marked.specs.Marked.{read_marked}
use Rattle.glue_marked.specs.Reads.{words_in}
use Rattle.glue_marked.proofs.Reading.{reading}
use Rattle.glue_helpers.specs.declared.arrays.TheConstants as arrays
use Rattle.glue_helpers.specs.declared.element.ElementKind.{ElementKind}
use Rattle.glue_helpers.specs.declared.element.Width.{Width}
use Rattle.glue_helpers.specs.Arrays.{array_stand_ins, adding_stand_ins, get_array, pass_array, get_values_by_table}
use Rattle.glue_helpers.specs.Arrays.{get_values_by_heap, pass_values_by_table, pass_values_by_heap, get_array_names}
use Rattle.glue_helpers.specs.Arrays.{pass_array_names, get_by_table_names, get_by_heap_names, pass_by_table_names}
use Rattle.glue_helpers.specs.Arrays.{pass_by_heap_names}
use Rattle.glue_helpers.specs.Items.{named_words, sized_words}
use Rattle.glue_helpers.specs.Numbered.{element_size, unsigned_element, array_view_name, data_view_name, get_array_name}
use Rattle.glue_helpers.specs.Numbered.{pass_array_name, get_values_name, pass_values_name, add_name}
use Rattle.glue_helpers.specs.References.{drop_exports}
use Rattle.glue_helpers.specs.TextNames.{TextNames, plain_names}
use Rattle.glue_helpers.proofs.Numbered.{numbered_name, ident_before, array_view_ident, get_array_ident}
use Rattle.glue_helpers.proofs.Numbered.{pass_array_ident}
use Rattle.glue_helpers.proofs.Telling.{Tells, Holds, named_holds, named_fits}

-- ---- the texts are read

pub get_array_reads : is_ok (read_marked arrays.GET_ARRAY.now) ≡ true
unfolding reading
get_array_reads = refl

pub pass_array_reads : is_ok (read_marked arrays.PASS_ARRAY.now) ≡ true
unfolding reading
pass_array_reads = refl

pub get_by_table_reads : is_ok (read_marked arrays.GET_VALUES_BY_TABLE.now) ≡ true
unfolding reading
get_by_table_reads = refl

pub get_by_heap_reads : is_ok (read_marked arrays.GET_VALUES_BY_HEAP.now) ≡ true
unfolding reading
get_by_heap_reads = refl

pub pass_by_table_reads : is_ok (read_marked arrays.PASS_VALUES_BY_TABLE.now) ≡ true
unfolding reading
pass_by_table_reads = refl

pub pass_by_heap_reads : is_ok (read_marked arrays.PASS_VALUES_BY_HEAP.now) ≡ true
unfolding reading
pass_by_heap_reads = refl

-- ---- what they tell of their names, by their stand-ins

abbrev told : List (List ℕ) → TextNames
told uses = plain_names (codes "$name" ∷ []) uses []

get_array_tells : (size : ℕ) → Tells (sized_words (pos size) arrays.GET_ARRAY.now) (told (codes "$view" ∷ []))
unfolding reading sized_words
get_array_tells size = refl

pass_array_tells : (size : ℕ)
    → Tells (sized_words (pos size) arrays.PASS_ARRAY.now) (told (codes "$view" ∷ codes "WASM_VECTOR_LEN" ∷ []))
unfolding reading sized_words
pass_array_tells size = refl

abbrev get_by_table_told : TextNames
get_by_table_told = record {
  binds = codes "$name" ∷ [];
  uses = codes "$view" ∷ codes "wasm" ∷ [];
  hosts = [];
  takes = codes "$table" ∷ codes "$drop" ∷ [];
}

get_by_table_tells : Tells (words_in arrays.GET_VALUES_BY_TABLE.now) get_by_table_told
unfolding reading
get_by_table_tells = refl

abbrev get_by_heap_told : TextNames
get_by_heap_told = told (codes "$view" ∷ codes "takeObject" ∷ [])

get_by_heap_tells : Tells (words_in arrays.GET_VALUES_BY_HEAP.now) get_by_heap_told
unfolding reading
get_by_heap_tells = refl

abbrev pass_by_table_told : TextNames
pass_by_table_told = told (codes "$add" ∷ codes "$view" ∷ codes "WASM_VECTOR_LEN" ∷ [])

pass_by_table_tells : Tells (words_in arrays.PASS_VALUES_BY_TABLE.now) pass_by_table_told
unfolding reading
pass_by_table_tells = refl

abbrev pass_by_heap_told : TextNames
pass_by_heap_told = told (codes "$view" ∷ codes "addHeapObject" ∷ codes "WASM_VECTOR_LEN" ∷ [])

pass_by_heap_tells : Tells (words_in arrays.PASS_VALUES_BY_HEAP.now) pass_by_heap_told
unfolding reading
pass_by_heap_tells = refl

-- ---- their names, and where they fit: arrays of numbers

pub get_array_holds : (e : ElementKind) (memory : ℕ) → Holds (get_array e memory).words (get_array_names e memory)
unfolding named_words
get_array_holds e memory =
    named_holds (sized_words (pos (element_size e)) arrays.GET_ARRAY.now) (told (codes "$view" ∷ []))
    (get_array_tells (element_size e)) (array_stand_ins (get_array_name e memory) (array_view_name e memory)) []

pub get_array_fits : (e : ElementKind) (memory : ℕ) (c : Context) → AreAmong (get_array_names e memory).uses c.declared
    → Fits c (facts (get_array e memory).words)
unfolding reading named_words sized_words
get_array_fits e memory c uses =
    named_fits (sized_words (pos (element_size e)) arrays.GET_ARRAY.now) (told (codes "$view" ∷ []))
    (get_array_tells (element_size e)) (array_stand_ins (get_array_name e memory) (array_view_name e memory)) [] c
    (ident_before (get_array_name e memory) (array_view_name e memory ∷ []) (get_array_ident e memory)
    (ident_before (array_view_name e memory) [] (array_view_ident e memory) refl)) refl refl uses tt tt

pub pass_array_holds : (w : Width) (memory : ℕ) → Holds (pass_array w memory).words (pass_array_names w memory)
unfolding named_words
pass_array_holds w memory =
    named_holds (sized_words (pos (element_size (unsigned_element w))) arrays.PASS_ARRAY.now)
    (told (codes "$view" ∷ codes "WASM_VECTOR_LEN" ∷ [])) (pass_array_tells (element_size (unsigned_element w)))
    (array_stand_ins (pass_array_name w memory) (array_view_name (unsigned_element w) memory)) []

pub pass_array_fits : (w : Width) (memory : ℕ) (c : Context) → AreAmong (pass_array_names w memory).uses c.declared
    → Fits c (facts (pass_array w memory).words)
unfolding reading named_words sized_words
pass_array_fits w memory c uses =
    named_fits (sized_words (pos (element_size (unsigned_element w))) arrays.PASS_ARRAY.now)
    (told (codes "$view" ∷ codes "WASM_VECTOR_LEN" ∷ [])) (pass_array_tells (element_size (unsigned_element w)))
    (array_stand_ins (pass_array_name w memory) (array_view_name (unsigned_element w) memory)) [] c
    (ident_before (pass_array_name w memory) (array_view_name (unsigned_element w) memory ∷ [])
    (pass_array_ident w memory)
    (ident_before (array_view_name (unsigned_element w) memory) [] (array_view_ident (unsigned_element w) memory) refl))
    refl refl uses tt tt

-- ---- arrays of values

module _ (memory : ℕ) where
  get_idents : list_all is_ident (get_values_name memory ∷ data_view_name memory ∷ []) ≡ true
  unfolding reading
  get_idents =
      ident_before (get_values_name memory) (data_view_name memory ∷ [])
      (numbered_name (codes "getArrayJsValueFromWasm") memory refl refl)
      (ident_before (data_view_name memory) [] (numbered_name (codes "getDataViewMemory") memory refl refl) refl)

  pass_idents : list_all is_ident (pass_values_name memory ∷ data_view_name memory ∷ []) ≡ true
  unfolding reading
  pass_idents =
      ident_before (pass_values_name memory) (data_view_name memory ∷ [])
      (numbered_name (codes "passArrayJsValueToWasm") memory refl refl)
      (ident_before (data_view_name memory) [] (numbered_name (codes "getDataViewMemory") memory refl refl) refl)

  pub get_by_table_holds : (table free : List ℕ)
      → Holds (get_values_by_table memory table free).words (get_by_table_names memory table free)
  unfolding named_words
  get_by_table_holds table free =
      named_holds (words_in arrays.GET_VALUES_BY_TABLE.now) get_by_table_told get_by_table_tells
      (array_stand_ins (get_values_name memory) (data_view_name memory)) (drop_exports table free)

  pub get_by_table_fits : (table free : List ℕ) (c : Context)
      → AreAmong (get_by_table_names memory table free).uses c.declared
      → AreAmong (get_by_table_names memory table free).takes c.exports
      → Fits c (facts (get_values_by_table memory table free).words)
  unfolding reading named_words
  get_by_table_fits table free c uses takes =
      named_fits (words_in arrays.GET_VALUES_BY_TABLE.now) get_by_table_told get_by_table_tells
      (array_stand_ins (get_values_name memory) (data_view_name memory)) (drop_exports table free) c get_idents refl
      refl uses tt takes

  pub get_by_heap_holds : Holds (get_values_by_heap memory).words (get_by_heap_names memory)
  unfolding named_words
  get_by_heap_holds =
      named_holds (words_in arrays.GET_VALUES_BY_HEAP.now) get_by_heap_told get_by_heap_tells
      (array_stand_ins (get_values_name memory) (data_view_name memory)) []

  pub get_by_heap_fits : (c : Context) → AreAmong (get_by_heap_names memory).uses c.declared
      → Fits c (facts (get_values_by_heap memory).words)
  unfolding reading named_words
  get_by_heap_fits c uses =
      named_fits (words_in arrays.GET_VALUES_BY_HEAP.now) get_by_heap_told get_by_heap_tells
      (array_stand_ins (get_values_name memory) (data_view_name memory)) [] c get_idents refl refl uses tt tt

  pub pass_by_table_holds : (table : ℕ)
      → Holds (pass_values_by_table memory table).words (pass_by_table_names memory table)
  unfolding named_words
  pass_by_table_holds table =
      named_holds (words_in arrays.PASS_VALUES_BY_TABLE.now) pass_by_table_told pass_by_table_tells
      (adding_stand_ins (pass_values_name memory) (data_view_name memory) (add_name table)) []

  adding_idents : (table : ℕ)
      → list_all is_ident (pass_values_name memory ∷ data_view_name memory ∷ add_name table ∷ []) ≡ true
  unfolding reading
  adding_idents table =
      ident_before (pass_values_name memory) (data_view_name memory ∷ add_name table ∷ [])
      (numbered_name (codes "passArrayJsValueToWasm") memory refl refl)
      (ident_before (data_view_name memory) (add_name table ∷ [])
      (numbered_name (codes "getDataViewMemory") memory refl refl)
      (ident_before (add_name table) [] (numbered_name (codes "addToExternrefTable") table refl refl) refl))

  pub pass_by_table_fits : (table : ℕ) (c : Context) → AreAmong (pass_by_table_names memory table).uses c.declared
      → Fits c (facts (pass_values_by_table memory table).words)
  unfolding reading named_words
  pass_by_table_fits table c uses =
      named_fits (words_in arrays.PASS_VALUES_BY_TABLE.now) pass_by_table_told pass_by_table_tells
      (adding_stand_ins (pass_values_name memory) (data_view_name memory) (add_name table)) [] c (adding_idents table) refl refl uses tt tt

  pub pass_by_heap_holds : Holds (pass_values_by_heap memory).words (pass_by_heap_names memory)
  unfolding named_words
  pass_by_heap_holds =
      named_holds (words_in arrays.PASS_VALUES_BY_HEAP.now) pass_by_heap_told pass_by_heap_tells
      (array_stand_ins (pass_values_name memory) (data_view_name memory)) []

  pub pass_by_heap_fits : (c : Context) → AreAmong (pass_by_heap_names memory).uses c.declared
      → Fits c (facts (pass_values_by_heap memory).words)
  unfolding reading named_words
  pass_by_heap_fits c uses =
      named_fits (words_in arrays.PASS_VALUES_BY_HEAP.now) pass_by_heap_told pass_by_heap_tells
      (array_stand_ins (pass_values_name memory) (data_view_name memory)) [] c pass_idents refl refl uses tt tt
