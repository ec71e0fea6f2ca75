-- Lists of parameters and of arguments: their names, and that they are spaced.
use Rattle.std.proofs.Common.{◌≡◌, ℕ, List, ◌∷◌, [], ◌++◌, refl, ap, ◌∙◌, Bool, true}
use Rattle.std.proofs.lemmas.Bool.{and_parts}
use Rattle.std.proofs.lemmas.List.{append-nil}
use Rattle.std.proofs.lemmas.List.Folds.{list_all-append}
use Rattle.std.proofs.lemmas.List.Elements.{filter_map-append}
use Rattle.std.specs.Prelude.{Option, None, ◌&&◌}
use Rattle.std.specs.List.{list_all, filter_map}
use Rattle.glue_words.specs.declared.punct.TheConstants as punct
use Rattle.glue_words.specs.Words.{space}
use Rattle.glue_words.specs.declared.word.Word.{Word}
use Rattle.glue_words.specs.declared.word.Word.TheVariants.{Punct, LocalBind, Local}
use Rattle.glue_words.specs.Ident.{is_ident}
use Rattle.glue_words.specs.Functions.{further_parameters, parameter_words, parenthesised}
use Rattle.glue_words.specs.Names.{local_bound_in, local_in}
use Rattle.glue_words.specs.Spacing.{joins, each_next}
use Rattle.glue_words.specs.Tables.{punct_text}
use Rattle.glue_words.proofs.ByKind.{stands_by_kind, is_sound}
use Rattle.glue_words.proofs.Spaced.{is_no_note}

and_true : (a b : Bool) → a ≡ true → b ≡ true → (a && b) ≡ true
and_true a b h k = ap (λ x. x && b) h ∙ k

-- the further arguments, each after `, `
abbrev pub further_arguments : List (List ℕ) → List Word
further_arguments [] = []
further_arguments (name ∷ names) = Punct punct.COMMA ∷ space ∷ Local name ∷ further_arguments names

-- arguments that are local names, with `, ` between them
abbrev pub argument_words : List (List ℕ) → List Word
argument_words [] = []
argument_words (name ∷ names) = Local name ∷ further_arguments names

-- ---- names

further_local_bound : (names : List (List ℕ)) → local_bound_in (further_parameters names) ≡ names
further_local_bound [] = refl
further_local_bound (name ∷ names) = ap (λ (xs : List (List ℕ)). name ∷ xs) (further_local_bound names)

-- parameters declare their names
pub parameters_declare : (names : List (List ℕ)) → local_bound_in (parameter_words names) ≡ names
parameters_declare [] = refl
parameters_declare (name ∷ names) = ap (λ (xs : List (List ℕ)). name ∷ xs) (further_local_bound names)

further_local : (names : List (List ℕ)) → local_in (further_arguments names) ≡ names
further_local [] = refl
further_local (name ∷ names) = ap (λ (xs : List (List ℕ)). name ∷ xs) (further_local names)

-- arguments use their names
pub arguments_use : (names : List (List ℕ)) → local_in (argument_words names) ≡ names
arguments_use [] = refl
arguments_use (name ∷ names) = ap (λ (xs : List (List ℕ)). name ∷ xs) (further_local names)

module _ (kind : Word → Option (List ℕ)) (comma : kind (Punct punct.COMMA) ≡ None) (gap : kind (space) ≡ None) where
  skip_none : (word : Word) (words : List Word) → kind word ≡ None → filter_map kind (word ∷ words) ≡ filter_map kind words
  skip_none word words h = rw h refl

  further_parameters_none : ((name : List ℕ) → kind (LocalBind name) ≡ None) → (names : List (List ℕ)) → filter_map kind (further_parameters names) ≡ []
  further_parameters_none other [] = refl
  further_parameters_none other (name ∷ names) =
      skip_none (Punct punct.COMMA) (space ∷ LocalBind name ∷ further_parameters names) comma
      ∙ skip_none (space) (LocalBind name ∷ further_parameters names) gap
      ∙ skip_none (LocalBind name) (further_parameters names) (other name) ∙ further_parameters_none other names

  -- parameters have no names of another kind
  pub parameters_none : ((name : List ℕ) → kind (LocalBind name) ≡ None) → (names : List (List ℕ)) → filter_map kind (parameter_words names) ≡ []
  parameters_none other [] = refl
  parameters_none other (name ∷ names) = skip_none (LocalBind name) (further_parameters names) (other name) ∙ further_parameters_none other names

  further_arguments_none : ((name : List ℕ) → kind (Local name) ≡ None) → (names : List (List ℕ)) → filter_map kind (further_arguments names) ≡ []
  further_arguments_none other [] = refl
  further_arguments_none other (name ∷ names) =
      skip_none (Punct punct.COMMA) (space ∷ Local name ∷ further_arguments names) comma
      ∙ skip_none (space) (Local name ∷ further_arguments names) gap
      ∙ skip_none (Local name) (further_arguments names) (other name) ∙ further_arguments_none other names

  -- nor have arguments
  pub arguments_none : ((name : List ℕ) → kind (Local name) ≡ None) → (names : List (List ℕ)) → filter_map kind (argument_words names) ≡ []
  arguments_none other [] = refl
  arguments_none other (name ∷ names) = skip_none (Local name) (further_arguments names) (other name) ∙ further_arguments_none other names

-- words in parentheses have the names of the words
pub parenthesised_names : (kind : Word → Option (List ℕ)) → kind (Punct punct.OPEN_PAREN) ≡ None → kind (Punct punct.CLOSE_PAREN) ≡ None → (words : List Word) → filter_map kind (parenthesised words) ≡ filter_map kind words
parenthesised_names kind left right words =
    rw left (filter_map-append kind words (Punct punct.CLOSE_PAREN ∷ []) ∙ ap (λ (xs : List (List ℕ)). filter_map kind words ++ xs) (rw right refl) ∙ append-nil (filter_map kind words))

-- ---- a test of each word

module _ (test : Word → Bool) (comma : test (Punct punct.COMMA) ≡ true) (gap : test (space) ≡ true) where
  further_parameters_all : (names : List (List ℕ)) → list_all (λ name. test (LocalBind name)) names ≡ true → list_all test (further_parameters names) ≡ true
  further_parameters_all [] h = refl
  further_parameters_all (name ∷ names) h =
      let parts = and_parts (test (LocalBind name)) (list_all (λ (x : List ℕ). test (LocalBind x)) names) h in
      and_true _ _ comma (and_true _ _ gap (and_true _ _ parts.0 (further_parameters_all names parts.1)))

  pub parameters_all : (names : List (List ℕ)) → list_all (λ name. test (LocalBind name)) names ≡ true → list_all test (parameter_words names) ≡ true
  parameters_all [] h = refl
  parameters_all (name ∷ names) h =
      let parts = and_parts (test (LocalBind name)) (list_all (λ (x : List ℕ). test (LocalBind x)) names) h in
      and_true _ _ parts.0 (further_parameters_all names parts.1)

  further_arguments_all : (names : List (List ℕ)) → list_all (λ name. test (Local name)) names ≡ true → list_all test (further_arguments names) ≡ true
  further_arguments_all [] h = refl
  further_arguments_all (name ∷ names) h =
      let parts = and_parts (test (Local name)) (list_all (λ (x : List ℕ). test (Local x)) names) h in
      and_true _ _ comma (and_true _ _ gap (and_true _ _ parts.0 (further_arguments_all names parts.1)))

  pub arguments_all : (names : List (List ℕ)) → list_all (λ name. test (Local name)) names ≡ true → list_all test (argument_words names) ≡ true
  arguments_all [] h = refl
  arguments_all (name ∷ names) h =
      let parts = and_parts (test (Local name)) (list_all (λ (x : List ℕ). test (Local x)) names) h in
      and_true _ _ parts.0 (further_arguments_all names parts.1)

pub parenthesised_all : (test : Word → Bool) → test (Punct punct.OPEN_PAREN) ≡ true → test (Punct punct.CLOSE_PAREN) ≡ true → (words : List Word) → list_all test words ≡ true → list_all test (parenthesised words) ≡ true
parenthesised_all test left right words h =
    and_true _ _ left (list_all-append test words (Punct punct.CLOSE_PAREN ∷ []) ∙ and_true _ _ h (and_true _ _ right refl))

sound_from_ident : (names : List (List ℕ)) → list_all is_ident names ≡ true → list_all (λ name. is_sound (LocalBind name)) names ≡ true
sound_from_ident [] h = refl
sound_from_ident (name ∷ names) h =
    let parts = and_parts (is_ident name) (list_all is_ident names) h in
    and_true (is_sound (LocalBind name)) _ (and_true (is_ident name) true parts.0 refl) (sound_from_ident names parts.1)

all_true : (names : List (List ℕ)) → list_all (λ name. true) names ≡ true
all_true [] = refl
all_true (name ∷ names) = all_true names

-- parameters that are identifiers keep their limits
pub parameters_sound : (names : List (List ℕ)) → list_all is_ident names ≡ true → list_all is_sound (parenthesised (parameter_words names)) ≡ true
parameters_sound names h =
    parenthesised_all is_sound refl refl (parameter_words names) (parameters_all is_sound refl refl names (sound_from_ident names h))

-- and arguments
pub arguments_sound : (names : List (List ℕ)) → list_all is_ident names ≡ true → list_all is_sound (parenthesised (argument_words names)) ≡ true
arguments_sound names h =
    parenthesised_all is_sound refl refl (argument_words names) (arguments_all is_sound refl refl names (sound_from_ident names h))

-- no note stands among parameters
pub parameters_no_note : (names : List (List ℕ)) → list_all is_no_note (parenthesised (parameter_words names)) ≡ true
parameters_no_note names = parenthesised_all is_no_note refl refl (parameter_words names) (parameters_all is_no_note refl refl names (all_true names))

-- nor among arguments
pub arguments_no_note : (names : List (List ℕ)) → list_all is_no_note (parenthesised (argument_words names)) ≡ true
arguments_no_note names = parenthesised_all is_no_note refl refl (argument_words names) (arguments_all is_no_note refl refl names (all_true names))

-- ---- spaced

further_parameters_stand : (name : List ℕ) (names : List (List ℕ)) (next : Option Word) → stands_by_kind (Punct punct.CLOSE_PAREN) next ≡ true → each_next stands_by_kind (LocalBind name ∷ (further_parameters names ++ Punct punct.CLOSE_PAREN ∷ [])) next ≡ true
further_parameters_stand name [] next h = and_true (stands_by_kind (Punct punct.CLOSE_PAREN) next) true h refl
further_parameters_stand name (other ∷ names) next h = further_parameters_stand other names next h

-- parameters in parentheses stand before what a closing parenthesis may stand before
pub parameters_stand : (names : List (List ℕ)) (next : Option Word) → stands_by_kind (Punct punct.CLOSE_PAREN) next ≡ true → each_next stands_by_kind (parenthesised (parameter_words names)) next ≡ true
unfolding joins punct_text
parameters_stand [] next h = and_true (stands_by_kind (Punct punct.CLOSE_PAREN) next) true h refl
parameters_stand (name ∷ names) next h = further_parameters_stand name names next h

further_arguments_stand : (name : List ℕ) (names : List (List ℕ)) (next : Option Word) → stands_by_kind (Punct punct.CLOSE_PAREN) next ≡ true → each_next stands_by_kind (Local name ∷ (further_arguments names ++ Punct punct.CLOSE_PAREN ∷ [])) next ≡ true
further_arguments_stand name [] next h = and_true (stands_by_kind (Punct punct.CLOSE_PAREN) next) true h refl
further_arguments_stand name (other ∷ names) next h = further_arguments_stand other names next h

-- and arguments
pub arguments_stand : (names : List (List ℕ)) (next : Option Word) → stands_by_kind (Punct punct.CLOSE_PAREN) next ≡ true → each_next stands_by_kind (parenthesised (argument_words names)) next ≡ true
unfolding joins punct_text
arguments_stand [] next h = and_true (stands_by_kind (Punct punct.CLOSE_PAREN) next) true h refl
arguments_stand (name ∷ names) next h = further_arguments_stand name names next h
