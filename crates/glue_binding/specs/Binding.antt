-- The function that an adapter is bound to.
use Rattle.std.specs.Prelude.{◌≡◌, ℕ, true, List, [], ◌++◌, length}
use Rattle.std.specs.FinSet as set
use Rattle.std.specs.List.{list_all, flat_map}
use Rattle.values.specs.Lists.{IsIn, AreDistinct, AreApart}
use Rattle.glue_words.specs.Ident.{is_ident}
use Rattle.values.specs.TextSet.{TextSet, with_texts}
use Rattle.glue_scope.specs.Scope.{AreDrawn}
use Rattle.values.specs.Value.{Thing, Helper, Value, Answer}
use Rattle.glue_tree.specs.Plainly.{plain_stmts}
use Rattle.glue_tree.specs.TreeMeaning.{locals_of, tree_meaning}
use Rattle.glue_tree.specs.declared.tree.JsFunction.{JsFunction}
use Rattle.glue_steps.specs.AdapterMeaning.{helpers_of, adapter_meaning}
use Rattle.glue_steps.specs.declared.step.Step.{Step}
use Rattle.glue_binding.specs.Spelling.{tree_of, temporaries}
use Rattle.glue_operands.specs.Form.{parameters_of, value_names, form_words}
use Rattle.glue_binding.specs.Outer.{outer_names}
use Rattle.glue_operands.specs.declared.form.Form.{Form}

-- the scope that the parameters and temporaries are drawn in: it holds the names from outside, and those that stand around the function
abbrev pub outer_scope : List Step → (around : List (List ℕ)) → TextSet
outer_scope steps around = with_texts (with_texts set.empty (outer_names steps)) around

-- each helper that the steps take is what its name stands for
abbrev pub KnowsHelpers : List Step → (List ℕ → Thing) → Type 0
KnowsHelpers steps thing_of = (key : List ℕ) → IsIn key (flat_map helpers_of steps) → thing_of key ≡ Helper key

-- the function of a form with these steps, with parameters that are drawn for the wanted names, where these names stand around it
pub record IsBoundFunction (form : Form) (steps : List Step) (wanted around : List (List ℕ)) (f : JsFunction) : Type 0 where
  -- the names of the temporaries
  pub temps : List (List ℕ)
  -- as many parameters have a name as are wanted
  pub count : length f.params ≡ length wanted
  -- the parameters are drawn first, and then the temporaries
  pub drawn : AreDrawn (outer_scope steps around) (wanted ++ temporaries steps) (f.params ++ temps)
  -- the statements are those of the table of steps
  pub tree : plain_stmts f.tree ≡ tree_of steps (parameters_of form f.params) temps
  -- the words spell the parameters and the statements
  pub words : f.words ≡ form_words form f.params (plain_stmts f.tree)
  -- the function does what the adapter does, with any arguments and whatever the outside answers, throws included. The arguments are the values of
  -- the parameters: the first is that of `this`, and the last is the list of further ones, where the form has these
  pub meaning : (thing_of : List ℕ → Thing) → KnowsHelpers steps thing_of
      → (args : List Value) (answers : List Answer) →
      tree_meaning thing_of (plain_stmts f.tree) (locals_of (value_names form f.params) args) answers
      ≡ adapter_meaning steps (length (value_names form f.params)) args answers
  -- no signature and no documentation
  pub untyped : (f.ts_sig ≡ []) × (f.ts_doc ≡ []) × (f.js_doc ≡ [])

-- names of a function's own: distinct identifiers, none of them a name from outside
pub record AreOwn (steps : List Step) (names : List (List ℕ)) : Type 0 where
  pub distinct : AreDistinct names
  pub idents : list_all is_ident names ≡ true
  pub apart : AreApart names (outer_names steps)
