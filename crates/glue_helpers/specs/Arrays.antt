-- The helpers that pass arrays through a memory, and their names.
use Rattle.std.specs.Prelude.{ℕ, ℤ, pos, List, [], ◌∷◌, codes}
use Rattle.glue_words.specs.declared.item.Item.{Item}
use Rattle.glue_marked.specs.Reads.{words_in}
use Rattle.glue_marked.specs.StandIns.{Names}
use Rattle.glue_helpers.specs.declared.arrays.TheConstants as arrays
use Rattle.glue_helpers.specs.declared.element.ElementKind.{ElementKind}
use Rattle.glue_helpers.specs.declared.element.Width.{Width}
use Rattle.glue_helpers.specs.Items.{helper_item, named_words, sized_words}
use Rattle.glue_helpers.specs.Numbered.{element_size, unsigned_element, array_view_name, data_view_name, get_array_name}
use Rattle.glue_helpers.specs.Numbered.{pass_array_name, get_values_name, pass_values_name, add_name}
use Rattle.glue_helpers.specs.References.{drop_exports}
use Rattle.glue_helpers.specs.TextNames.{TextNames, plain_names}

-- the names for the stand-ins: the helper's own, and that of the memory's view
abbrev pub array_stand_ins : List ℕ → List ℕ → Names
array_stand_ins name view = (codes "$name", name) ∷ (codes "$view", view) ∷ []

-- the item of a text with these stand-ins, and a number for the size of elements
abbrev pub sized_item : List ℕ → List ℕ → ℤ → List ℕ → Item
sized_item name view size text = helper_item name (named_words (array_stand_ins name view) [] (sized_words size text))

abbrev pub get_array : ElementKind → ℕ → Item
get_array e memory =
    sized_item (get_array_name e memory) (array_view_name e memory) (pos (element_size e)) arrays.GET_ARRAY.now

abbrev pub pass_array : Width → ℕ → Item
pass_array w memory =
    sized_item (pass_array_name w memory) (array_view_name (unsigned_element w) memory)
    (pos (element_size (unsigned_element w))) arrays.PASS_ARRAY.now

-- the item of a text with such stand-ins, and with exports
abbrev pub values_item : List ℕ → List ℕ → Names → List ℕ → Item
values_item name view exports text = helper_item name (named_words (array_stand_ins name view) exports (words_in text))

abbrev pub get_values_by_table : ℕ → List ℕ → List ℕ → Item
get_values_by_table memory table free =
    values_item (get_values_name memory) (data_view_name memory) (drop_exports table free)
    arrays.GET_VALUES_BY_TABLE.now

abbrev pub get_values_by_heap : ℕ → Item
get_values_by_heap memory =
    values_item (get_values_name memory) (data_view_name memory) [] arrays.GET_VALUES_BY_HEAP.now

-- with the name of the helper that adds a value to the table
abbrev pub adding_stand_ins : List ℕ → List ℕ → List ℕ → Names
adding_stand_ins name view add = (codes "$name", name) ∷ (codes "$view", view) ∷ (codes "$add", add) ∷ []

abbrev pub adding_item : List ℕ → List ℕ → List ℕ → List ℕ → Item
adding_item name view add text = helper_item name (named_words (adding_stand_ins name view add) [] (words_in text))

abbrev pub pass_values_by_table : ℕ → ℕ → Item
pass_values_by_table memory table =
    adding_item (pass_values_name memory) (data_view_name memory) (add_name table) arrays.PASS_VALUES_BY_TABLE.now

abbrev pub pass_values_by_heap : ℕ → Item
pass_values_by_heap memory =
    values_item (pass_values_name memory) (data_view_name memory) [] arrays.PASS_VALUES_BY_HEAP.now

-- ---- their names

abbrev pub get_array_names : ElementKind → ℕ → TextNames
get_array_names e memory = plain_names (get_array_name e memory ∷ []) (array_view_name e memory ∷ []) []

abbrev pub pass_array_names : Width → ℕ → TextNames
pass_array_names w memory =
    plain_names (pass_array_name w memory ∷ [])
    (array_view_name (unsigned_element w) memory ∷ codes "WASM_VECTOR_LEN" ∷ []) []

abbrev pub get_by_table_names : ℕ → List ℕ → List ℕ → TextNames
get_by_table_names memory table free = record {
  binds = get_values_name memory ∷ [];
  uses = data_view_name memory ∷ codes "wasm" ∷ [];
  hosts = [];
  takes = table ∷ free ∷ [];
}

abbrev pub get_by_heap_names : ℕ → TextNames
get_by_heap_names memory =
    plain_names (get_values_name memory ∷ []) (data_view_name memory ∷ codes "takeObject" ∷ []) []

abbrev pub pass_by_table_names : ℕ → ℕ → TextNames
pass_by_table_names memory table =
    plain_names (pass_values_name memory ∷ [])
    (add_name table ∷ data_view_name memory ∷ codes "WASM_VECTOR_LEN" ∷ []) []

abbrev pub pass_by_heap_names : ℕ → TextNames
pass_by_heap_names memory =
    plain_names (pass_values_name memory ∷ [])
    (data_view_name memory ∷ codes "addHeapObject" ∷ codes "WASM_VECTOR_LEN" ∷ []) []
