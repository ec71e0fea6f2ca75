-- The names from outside a function that its words use, read off words that no names are drawn for.
use Rattle.std.specs.Prelude.{ℕ, List, [], ◌∷◌, ◌++◌}
use Rattle.std.specs.List.{flat_map}
use Rattle.glue_words.specs.declared.word.Word.{Word}
use Rattle.glue_words.specs.declared.word.Word.TheVariants as w
use Rattle.glue_words.specs.Names.{used_in, hosted_in}
use Rattle.glue_tree.specs.Spelling.{function_words}
use Rattle.glue_binding.specs.Spelling.{tree_of}
use Rattle.glue_steps.specs.declared.step.Step.{Step}

-- the names of the module's scope and the host's names that words use
abbrev pub outer_in : List Word → List (List ℕ)
outer_in words = used_in words ++ hosted_in words

-- the words of the function of these steps, spelled with no parameters and no temporaries drawn
abbrev pub seed_words : List Step → List Word
seed_words steps = function_words [] (tree_of steps [] [])

-- the name from outside that a word uses
abbrev pub outer_of : Word → List (List ℕ)
outer_of (w.Refer name now) = name ∷ []
outer_of (w.Host name now) = name ∷ []
outer_of word = []

-- those of words, in order
abbrev pub outer_list : List Word → List (List ℕ)
outer_list words = flat_map outer_of words

-- the names from outside that the function of these steps uses, whatever its parameters and temporaries are called
abbrev pub outer_names : List Step → List (List ℕ)
outer_names steps = outer_list (seed_words steps)
