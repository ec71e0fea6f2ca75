-- The form of a function: how its parameters are spelled, and how they are printed.
use Rattle.std.specs.Prelude.{ℕ, Bool, true, false, ◌&&◌, List, [], ◌∷◌, ◌++◌, map, codes}
use Rattle.glue_words.specs.declared.word.Word.{Word}
use Rattle.glue_words.specs.declared.word.Word.TheVariants as w
use Rattle.glue_words.specs.declared.punct.TheConstants as punct
use Rattle.glue_words.specs.Functions.{parenthesised}
use Rattle.glue_words.specs.Words.{space}
use Rattle.glue_tree.specs.Term.{Lines}
use Rattle.glue_tree.specs.Spelling.{comma_unless, is_none, block_words}
use Rattle.glue_operands.specs.Spelling.{Plain, This, Local, word_if}
use Rattle.glue_operands.specs.declared.form.Form.{Form}

-- each parameter has a name, and none gathers others
abbrev pub usual_form : Form
usual_form = record { takes_this = false; has_rest = false }

-- an item in front of others, where it stands
abbrev pub first_if : {A : Type 0} → Bool → A → List A → List A
first_if true x xs = x ∷ xs
first_if false x xs = xs

-- what the parameters are spelled as: `this` is the first one where the form takes it, and the others are locals of these names
abbrev pub parameters_of : Form → (names : List (List ℕ)) → List Plain
parameters_of form names = first_if form.takes_this This (map Local names)

-- the names under which the parameters have their values; no local has the name of `this`
abbrev pub value_names : Form → (names : List (List ℕ)) → List (List ℕ)
value_names form names = first_if form.takes_this (codes "this") names

-- `p`, or `...p`, which gathers the further arguments
abbrev pub printed_parameter : (gathers : Bool) → List ℕ → List Word
printed_parameter gathers name = word_if gathers (w.Punct punct.SPREAD) ++ w.LocalBind name ∷ []

-- parameters one after the other, with `, ` before each but the first; the last one may gather the further arguments
abbrev pub printed_parameters : (first gathers : Bool) → List (List ℕ) → List Word
printed_parameters first gathers [] = []
printed_parameters first gathers (name ∷ names) =
    comma_unless first ++ (printed_parameter (gathers && is_none names) name ++ printed_parameters false gathers names)

-- the text of a function of a form after its name: the parameters that have names, and the body
abbrev pub form_words : Form → (names : List (List ℕ)) → Lines → List Word
form_words form names body = parenthesised (printed_parameters true form.has_rest names) ++ space ∷ block_words body
