-- The helpers that give a view of a memory, and their names.
use Rattle.std.specs.Prelude.{ℕ, List, [], ◌∷◌, codes}
use Rattle.glue_words.specs.declared.item.Item.{Item}
use Rattle.glue_marked.specs.Reads.{words_in}
use Rattle.glue_marked.specs.StandIns.{Names}
use Rattle.glue_helpers.specs.declared.views.TheConstants as views
use Rattle.glue_helpers.specs.declared.element.ElementKind.{ElementKind}
use Rattle.glue_helpers.specs.Items.{helper_item, named_words}
use Rattle.glue_helpers.specs.Numbered.{element_class, array_view_name, array_cache_name, data_view_name}
use Rattle.glue_helpers.specs.Numbered.{data_cache_name}
use Rattle.glue_helpers.specs.TextNames.{TextNames}

-- the memory's export, for its stand-in
abbrev pub memory_export : List ℕ → Names
memory_export export = (codes "$memory", export) ∷ []

-- the names of a view as an array
abbrev pub array_stand_ins : ElementKind → ℕ → Names
array_stand_ins e memory =
    (codes "$view", array_view_name e memory) ∷ (codes "$cache", array_cache_name e memory)
    ∷ (codes "$kind", element_class e) ∷ []

abbrev pub array_view : ElementKind → ℕ → List ℕ → Item
array_view e memory export =
    helper_item (array_view_name e memory)
    (named_words (array_stand_ins e memory) (memory_export export) (words_in views.ARRAY_VIEW.now))

-- the names of a view of numbers
abbrev pub data_stand_ins : ℕ → Names
data_stand_ins memory = (codes "$view", data_view_name memory) ∷ (codes "$cache", data_cache_name memory) ∷ []

abbrev pub data_view : ℕ → List ℕ → Item
data_view memory export =
    helper_item (data_view_name memory)
    (named_words (data_stand_ins memory) (memory_export export) (words_in views.DATA_VIEW.now))

-- ---- their names

abbrev pub array_view_names : ElementKind → ℕ → List ℕ → TextNames
array_view_names e memory export = record {
  binds = array_cache_name e memory ∷ array_view_name e memory ∷ [];
  uses = codes "wasm" ∷ array_cache_name e memory ∷ [];
  hosts = element_class e ∷ [];
  takes = export ∷ [];
}

abbrev pub data_view_names : ℕ → List ℕ → TextNames
data_view_names memory export = record {
  binds = data_cache_name memory ∷ data_view_name memory ∷ [];
  uses = codes "wasm" ∷ data_cache_name memory ∷ [];
  hosts = codes "undefined" ∷ codes "DataView" ∷ [];
  takes = export ∷ [];
}
