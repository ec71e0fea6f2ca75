-- The helpers that pass strings through a memory, and their names.
use Rattle.std.specs.Prelude.{ℕ, Bool, true, false, List, [], ◌∷◌, codes}
use Rattle.glue_words.specs.declared.item.Item.{Item}
use Rattle.glue_marked.specs.Reads.{words_in}
use Rattle.glue_marked.specs.StandIns.{Names}
use Rattle.glue_helpers.specs.declared.strings.TheConstants as strings
use Rattle.glue_helpers.specs.declared.element.ElementKind.TheVariants.{U8}
use Rattle.glue_helpers.specs.Items.{helper_item, named_words}
use Rattle.glue_helpers.specs.Numbered.{array_view_name, get_string_name, pass_string_name}
use Rattle.glue_helpers.specs.TextNames.{TextNames, plain_names}

-- the names for the stand-ins: the helper's own, and that of the memory's view of bytes
abbrev pub string_stand_ins : ℕ → List ℕ → Names
string_stand_ins memory name = (codes "$name", name) ∷ (codes "$view", array_view_name U8 memory) ∷ []

-- the item of a text with these stand-ins
abbrev pub string_item : ℕ → List ℕ → List ℕ → Item
string_item memory name text = helper_item name (named_words (string_stand_ins memory name) [] (words_in text))

abbrev pub get_string : ℕ → Item
get_string memory = string_item memory (get_string_name memory) strings.GET_STRING.now

-- the text with tests, or without
abbrev pub pass_string_text : Bool → List ℕ
pass_string_text true = strings.TESTED_PASS_STRING.now
pass_string_text false = strings.PASS_STRING.now

abbrev pub pass_string : ℕ → Bool → Item
pass_string memory tested = string_item memory (pass_string_name memory) (pass_string_text tested)

-- ---- their names

abbrev pub get_string_names : ℕ → TextNames
get_string_names memory =
    plain_names (get_string_name memory ∷ []) (codes "decodeText" ∷ array_view_name U8 memory ∷ []) []

-- those of the host: an error is thrown by tests alone
abbrev pub pass_string_hosts : Bool → List (List ℕ)
pass_string_hosts true = codes "undefined" ∷ codes "Error" ∷ []
pass_string_hosts false = codes "undefined" ∷ []

abbrev pub pass_string_names : ℕ → Bool → TextNames
pass_string_names memory tested =
    plain_names (pass_string_name memory ∷ [])
    (array_view_name U8 memory ∷ codes "cachedTextEncoder" ∷ codes "WASM_VECTOR_LEN" ∷ []) (pass_string_hosts tested)
