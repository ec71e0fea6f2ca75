-- The names that words hold, by the kind of the word, and the keyword that publishes them.
use Rattle.std.specs.Prelude.{ℕ, Bool, false, ◌==◌, List, Option, Some, None}
use Rattle.std.specs.List.{filter_map}
use Rattle.glue_words.specs.declared.word.Word.{Word}
use Rattle.glue_words.specs.declared.word.Word.TheVariants.{Key, Bind, Refer, Host, LocalBind, Local, Wasm, Splice}
use Rattle.glue_words.specs.declared.word.Word.TheVariants.{Outer}
use Rattle.glue_words.specs.declared.key.TheConstants as key
use Rattle.glue_words.specs.declared.item.Item.{Item}
use Rattle.glue_words.specs.Words.{words_of}

-- the name that a word declares in the module's scope
abbrev pub bound_name : Word → Option (List ℕ)
bound_name (Bind name) = Some name
bound_name word = None

-- the name of the module's scope that a word uses
abbrev pub used_name : Word → Option (List ℕ)
used_name (Refer name now) = Some name
used_name word = None

-- the host's name that a word uses
abbrev pub hosted_name : Word → Option (List ℕ)
hosted_name (Host name now) = Some name
hosted_name word = None

-- the name that a word declares in a function's scope
abbrev pub local_bound_name : Word → Option (List ℕ)
local_bound_name (LocalBind name) = Some name
local_bound_name word = None

-- the name of a function's scope that a word uses
abbrev pub local_name : Word → Option (List ℕ)
local_name (Local name) = Some name
local_name word = None

-- the WebAssembly export that a word takes
abbrev pub wasm_name : Word → Option (List ℕ)
wasm_name (Wasm name) = Some name
wasm_name word = None

-- the computed key that a word is
abbrev pub spliced_key : Word → Option (List ℕ)
spliced_key (Splice text) = Some text
spliced_key word = None

-- a name for the outside
abbrev pub outer_name : Word → Option (List ℕ)
outer_name (Outer name) = Some name
outer_name word = None

-- the same of words, in order
abbrev pub bound_in : List Word → List (List ℕ)
bound_in words = filter_map bound_name words

abbrev pub used_in : List Word → List (List ℕ)
used_in words = filter_map used_name words

abbrev pub hosted_in : List Word → List (List ℕ)
hosted_in words = filter_map hosted_name words

abbrev pub local_bound_in : List Word → List (List ℕ)
local_bound_in words = filter_map local_bound_name words

abbrev pub local_in : List Word → List (List ℕ)
local_in words = filter_map local_name words

abbrev pub wasm_in : List Word → List (List ℕ)
wasm_in words = filter_map wasm_name words

abbrev pub spliced_in : List Word → List (List ℕ)
spliced_in words = filter_map spliced_key words

-- the names that items declare in the module's scope, in order
abbrev pub bound_names : List Item → List (List ℕ)
bound_names items = bound_in (words_of items)

-- the word is the keyword `export`
abbrev pub is_export_key : Word → Bool
is_export_key (Key place) = place == key.EXPORT
is_export_key word = false
