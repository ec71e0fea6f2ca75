-- The helpers that reach values by a table of references, and their names.
use Rattle.std.specs.Prelude.{ℕ, List, [], ◌∷◌, codes}
use Rattle.glue_words.specs.declared.item.Item.{Item}
use Rattle.glue_marked.specs.Reads.{words_in}
use Rattle.glue_marked.specs.StandIns.{Names}
use Rattle.glue_helpers.specs.declared.externref.TheConstants as externref
use Rattle.glue_helpers.specs.Items.{helper_item, named_words}
use Rattle.glue_helpers.specs.Numbered.{add_name, get_name, take_name}
use Rattle.glue_helpers.specs.TextNames.{TextNames}

-- a helper's own name, for its stand-in
abbrev pub own_name : List ℕ → Names
own_name name = (codes "$name", name) ∷ []

-- the exports: the table, and the functions that give a free place and free one
abbrev pub table_export : List ℕ → Names
table_export export = (codes "$table", export) ∷ []

abbrev pub alloc_exports : List ℕ → List ℕ → Names
alloc_exports export allocate = (codes "$table", export) ∷ (codes "$alloc", allocate) ∷ []

abbrev pub drop_exports : List ℕ → List ℕ → Names
drop_exports export free = (codes "$table", export) ∷ (codes "$drop", free) ∷ []

abbrev pub add_to_table : ℕ → List ℕ → List ℕ → Item
add_to_table table export allocate =
    helper_item (add_name table)
    (named_words (own_name (add_name table)) (alloc_exports export allocate) (words_in externref.ADD_TO_TABLE.now))

abbrev pub get_from_table : ℕ → List ℕ → Item
get_from_table table export =
    helper_item (get_name table)
    (named_words (own_name (get_name table)) (table_export export) (words_in externref.GET_FROM_TABLE.now))

abbrev pub take_from_table : ℕ → List ℕ → List ℕ → Item
take_from_table table export free =
    helper_item (take_name table)
    (named_words (own_name (take_name table)) (drop_exports export free) (words_in externref.TAKE_FROM_TABLE.now))

-- the names of a helper with this name that takes these exports
abbrev pub reference_names : List ℕ → List (List ℕ) → TextNames
reference_names name takes = record { binds = name ∷ []; uses = codes "wasm" ∷ []; hosts = []; takes = takes }
