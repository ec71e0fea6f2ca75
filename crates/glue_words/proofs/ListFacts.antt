-- Facts of lists in parentheses: parameters, arguments that are local names, and operands.
use Rattle.std.proofs.Common.{◌≡◌, ℕ, List, ◌∷◌, [], ◌++◌, refl, ap, ◌∙◌}
use Rattle.glue_words.specs.declared.punct.TheConstants as punct
use Rattle.glue_words.specs.Words.{space}
use Rattle.glue_words.specs.declared.word.Word.{Word}
use Rattle.glue_words.specs.declared.word.Word.TheVariants.{Punct, Local, LocalBind}
use Rattle.glue_words.specs.Functions.{further_parameters, parameter_words, parenthesised}
use Rattle.glue_words.specs.Spacing.{joins}
use Rattle.glue_words.specs.Tables.{punct_text}
use Rattle.glue_words.specs.Facts.{facts, joined}
use Rattle.glue_words.proofs.Lists.{further_arguments, argument_words}
use Rattle.glue_words.proofs.Joined.{facts-append}
use Rattle.glue_words.proofs.LocalFacts.{of_locals}

-- the first word behind a name of a list
abbrev behind : List (List ℕ) → Word
behind [] = Punct punct.CLOSE_PAREN
behind (name ∷ names) = Punct punct.COMMA

abbrev start : (List ℕ → Word) → List (List ℕ) → Word
start word [] = Punct punct.CLOSE_PAREN
start word (name ∷ names) = word name

further_are : (names : List (List ℕ))
    → facts (further_parameters names ++ Punct punct.CLOSE_PAREN ∷ [])
    ≡ of_locals names [] (behind names) (Punct punct.CLOSE_PAREN)
unfolding joins punct_text
further_are [] = refl
further_are (name ∷ []) = refl
further_are (name ∷ next ∷ names) =
    facts-append (Punct punct.COMMA ∷ space ∷ LocalBind name ∷ []) (further_parameters (next ∷ names)
    ++ Punct punct.CLOSE_PAREN ∷ [])
    ∙ ap (joined (facts (Punct punct.COMMA ∷ space ∷ LocalBind name ∷ []))) (further_are (next ∷ names))

-- parameters in parentheses declare their names
pub parameters_are : (names : List (List ℕ))
    → facts (parenthesised (parameter_words names))
    ≡ of_locals names [] (Punct punct.OPEN_PAREN) (Punct punct.CLOSE_PAREN)
unfolding joins punct_text
parameters_are [] = refl
parameters_are (name ∷ []) = refl
parameters_are (name ∷ next ∷ names) =
    facts-append (Punct punct.OPEN_PAREN ∷ LocalBind name ∷ []) (further_parameters (next ∷ names)
    ++ Punct punct.CLOSE_PAREN ∷ [])
    ∙ ap (joined (facts (Punct punct.OPEN_PAREN ∷ LocalBind name ∷ []))) (further_are (next ∷ names))

further_args_are : (names : List (List ℕ))
    → facts (further_arguments names ++ Punct punct.CLOSE_PAREN ∷ [])
    ≡ of_locals [] names (behind names) (Punct punct.CLOSE_PAREN)
unfolding joins punct_text
further_args_are [] = refl
further_args_are (name ∷ []) = refl
further_args_are (name ∷ next ∷ names) =
    facts-append (Punct punct.COMMA ∷ space ∷ Local name ∷ []) (further_arguments (next ∷ names)
    ++ Punct punct.CLOSE_PAREN ∷ [])
    ∙ ap (joined (facts (Punct punct.COMMA ∷ space ∷ Local name ∷ []))) (further_args_are (next ∷ names))

-- arguments in parentheses use theirs
pub arguments_are : (names : List (List ℕ))
    → facts (parenthesised (argument_words names))
    ≡ of_locals [] names (Punct punct.OPEN_PAREN) (Punct punct.CLOSE_PAREN)
unfolding joins punct_text
arguments_are [] = refl
arguments_are (name ∷ []) = refl
arguments_are (name ∷ next ∷ names) =
    facts-append (Punct punct.OPEN_PAREN ∷ Local name ∷ []) (further_arguments (next ∷ names)
    ++ Punct punct.CLOSE_PAREN ∷ [])
    ∙ ap (joined (facts (Punct punct.OPEN_PAREN ∷ Local name ∷ []))) (further_args_are (next ∷ names))
