-- Lists of parameters, and words in parentheses.
use Rattle.std.specs.Prelude.{ℕ, List, [], ◌∷◌, ◌++◌}
use Rattle.glue_words.specs.declared.word.Word.{Word}
use Rattle.glue_words.specs.declared.word.Word.TheVariants.{Punct, LocalBind}
use Rattle.glue_words.specs.declared.punct.TheConstants as punct
use Rattle.glue_words.specs.Words.{space}

-- the further parameters, each after `, `
abbrev pub further_parameters : List (List ℕ) → List Word
further_parameters [] = []
further_parameters (name ∷ names) = Punct punct.COMMA ∷ space ∷ LocalBind name ∷ further_parameters names

-- parameters, with `, ` between them
abbrev pub parameter_words : List (List ℕ) → List Word
parameter_words [] = []
parameter_words (name ∷ names) = LocalBind name ∷ further_parameters names

-- words in parentheses
abbrev pub parenthesised : List Word → List Word
parenthesised words = Punct punct.OPEN_PAREN ∷ (words ++ Punct punct.CLOSE_PAREN ∷ [])
