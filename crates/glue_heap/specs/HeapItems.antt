-- The items of the object table: a fixed start, and the words of the part's statements.
use Rattle.std.specs.Prelude.{ℕ, Bool, true, List, [], ◌∷◌, ◌++◌, map, Option, Some, None}
use Rattle.glue_words.specs.declared.word.Word.{Word}
use Rattle.glue_words.specs.declared.word.Word.TheVariants as w
use Rattle.glue_words.specs.declared.item.Item.{Item}
use Rattle.glue_words.specs.declared.item.Role.TheVariants.{Helper}
use Rattle.glue_words.specs.declared.key.TheConstants as word_key
use Rattle.glue_words.specs.Words.{space, line_feed}
use Rattle.glue_tree.specs.Term.{Lines}
use Rattle.glue_tree.specs.Spelling.{function_words, lines_words}
use Rattle.glue_heap.specs.declared.key.HeapKey.{HeapKey}
use Rattle.glue_heap.specs.HeapKeys.{heap_key_text, heap_name, heap_parameter}
use Rattle.glue_heap.specs.HeapTrees.{heap_tree}

-- a word whose name, from outside of a function, is evaluated with its item
abbrev pub evaluated : Word → Word
evaluated (w.Refer name now) = w.Refer name true
evaluated (w.Host name now) = w.Host name true
evaluated word = word

-- the words behind the first
abbrev pub behind_first : List Word → List Word
behind_first [] = []
behind_first (word ∷ words) = words

-- `let name = value;`: the statements, whose first word is the name, evaluated with the item
abbrev pub variable_words : List ℕ → Lines → List Word
variable_words name tree =
    w.Key word_key.LET ∷ space ∷ w.Bind name ∷ map evaluated (behind_first (lines_words tree)) ++ line_feed ∷ []

-- `function name(parameter) {..}`
abbrev pub named_function_words : List ℕ → List ℕ → Lines → List Word
named_function_words name parameter tree =
    w.Key word_key.FUNCTION ∷ space ∷ w.Bind name ∷ function_words (parameter ∷ []) tree ++ line_feed ∷ []

-- the words of a part: of a function where it has a parameter, else of a variable
abbrev pub words_with : Option (List ℕ) → List ℕ → Lines → List Word
words_with (Some parameter) name tree = named_function_words name parameter tree
words_with None name tree = variable_words name tree

-- the words of a part, with the tests of `debug` or without them
abbrev pub heap_words : HeapKey → Bool → List Word
heap_words key debug = words_with (heap_parameter key) (heap_name key) (heap_tree key debug)

-- the item of a part
abbrev pub heap_item : HeapKey → Bool → Item
heap_item key debug = record { role = Helper (heap_key_text key); words = heap_words key debug }
