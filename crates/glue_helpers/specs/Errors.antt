-- The helper that hands what an import throws to the module, and its names.
use Rattle.std.specs.Prelude.{ℕ, List, [], ◌∷◌, codes}
use Rattle.glue_words.specs.declared.item.Item.{Item}
use Rattle.glue_marked.specs.Reads.{words_in}
use Rattle.glue_marked.specs.StandIns.{Names}
use Rattle.glue_helpers.specs.declared.errors.TheConstants as errors
use Rattle.glue_helpers.specs.Items.{helper_item, named_words}
use Rattle.glue_helpers.specs.Numbered.{add_name}
use Rattle.glue_helpers.specs.TextNames.{TextNames}

-- the export that keeps what was thrown, for its stand-in
abbrev pub store_export : List ℕ → Names
store_export store = (codes "$store", store) ∷ []

-- the helper that adds a value to the table of references
abbrev pub add_stand_in : ℕ → Names
add_stand_in table = (codes "$add", add_name table) ∷ []

abbrev pub handle_error_by_table : ℕ → List ℕ → Item
handle_error_by_table table store =
    helper_item (codes "handle_error")
    (named_words (add_stand_in table) (store_export store) (words_in errors.HANDLE_ERROR_BY_TABLE.now))

abbrev pub handle_error_by_heap : List ℕ → Item
handle_error_by_heap store =
    helper_item (codes "handle_error")
    (named_words [] (store_export store) (words_in errors.HANDLE_ERROR_BY_HEAP.now))

-- ---- its names

abbrev pub by_table_names : ℕ → List ℕ → TextNames
by_table_names table store = record {
  binds = codes "handleError" ∷ [];
  uses = add_name table ∷ codes "wasm" ∷ [];
  hosts = [];
  takes = store ∷ [];
}

abbrev pub by_heap_names : List ℕ → TextNames
by_heap_names store = record {
  binds = codes "handleError" ∷ [];
  uses = codes "wasm" ∷ codes "addHeapObject" ∷ [];
  hosts = [];
  takes = store ∷ [];
}
