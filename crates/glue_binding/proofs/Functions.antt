-- What is bound is the adapter's function.
use Rattle.std.proofs.Common.{◌≡◌, ℕ, List, [], ◌∷◌, length, refl, ap, sym, ◌∙◌, subst, Bool, true, false, true≢false, inl, inr, arith}
use Rattle.std.proofs.lemmas.Bool.{and_parts}
use Rattle.std.specs.Prelude.{codes}
use Rattle.std.specs.FinSet as set
use Rattle.std.specs.List.{list_all}
use Rattle.values.specs.Lists.{IsIn, IsAway, AreDistinct}
use Rattle.values.specs.TextSet.{TextSet, with_texts}
use Rattle.glue_words.specs.Ident.{is_ident}
use Rattle.glue_scope.specs.Scope.{AreDrawn}
use Rattle.glue_tree.specs.Plainly.{plain_stmts}
use Rattle.glue_tree.specs.TreeMeaning.{locals_of, tree_meaning}
use Rattle.glue_tree.specs.declared.tree.JsFunction.{JsFunction}
use Rattle.glue_binding.specs.Spelling.{tree_of, temporaries}
use Rattle.glue_operands.specs.Form.{first_if, parameters_of, value_names, form_words}
use Rattle.glue_operands.specs.declared.form.Form.{Form}
use Rattle.glue_binding.specs.Outer.{outer_names}
use Rattle.glue_binding.specs.Binding.{outer_scope, IsBoundFunction}
use Rattle.glue_steps.specs.declared.step.Step.{Step}
use Rattle.glue_scope.proofs.Drawn.{with_texts_there, length-drawn, drawn_new, drawn_distinct, drawn_idents, drawn-append}
use Rattle.glue_binding.proofs.Runs.{whole}

-- ---- `this` is no name that is drawn

this_reserved : is_ident (codes "this") ≡ false
unfolding is_ident
this_reserved = refl

never_this : (names : List (List ℕ)) → list_all is_ident names ≡ true → IsAway (codes "this") names
never_this [] h i = absurd i
never_this (name ∷ names) h (inl same) =
    absurd (true≢false (sym (and_parts (is_ident name) (list_all is_ident names) h).0 ∙ ap is_ident (sym same) ∙ this_reserved))
never_this (name ∷ names) h (inr i) = never_this names (and_parts (is_ident name) (list_all is_ident names) h).1 i

-- distinct names stay so beside it
values_distinct : (form : Form) (names : List (List ℕ)) → list_all is_ident names ≡ true → AreDistinct names → AreDistinct (value_names form names)
values_distinct form names idents d = by form.takes_this
  where
    by : (takes_this : Bool) → AreDistinct (first_if takes_this (codes "this") names)
    by true = (never_this names idents, d)
    by false = d

-- and names that are away from others are away from these beside it
values_away : (form : Form) (x : List ℕ) (others names : List (List ℕ)) → list_all is_ident others ≡ true → IsIn x others → IsAway x names
    → IsAway x (value_names form names)
values_away form x others names idents there away = by form.takes_this
  where
    by : (takes_this : Bool) → IsAway x (first_if takes_this (codes "this") names)
    by true (inl same) = never_this others idents (subst (λ (y : List ℕ). IsIn y others) same there)
    by true (inr i) = away i
    by false i = away i

-- ---- the function

pub bound_function : (form : Form) (steps : List Step) (wanted around others temps : List (List ℕ)) (f : JsFunction)
    (b seeded reserved after : TextSet) → b ≡ set.empty → seeded ≡ with_texts b (outer_names steps) → reserved ≡ with_texts seeded around
    → AreDrawn reserved wanted f.params → after ≡ with_texts reserved f.params → others ≡ temporaries steps
    → AreDrawn after others temps → plain_stmts f.tree ≡ tree_of steps (parameters_of form f.params) temps
    → f.words ≡ form_words form f.params (plain_stmts f.tree) → (f.ts_sig ≡ []) × (f.ts_doc ≡ []) × (f.js_doc ≡ [])
    → IsBoundFunction form steps wanted around f
bound_function form steps wanted around others temps f b seeded reserved after e r t dp a o dt tree words untyped =
    let scope = outer_scope steps around in
    let start : reserved ≡ scope = t ∙ ap (λ (s : TextSet). with_texts s around) (r ∙ ap (λ (s : TextSet). with_texts s (outer_names steps)) e) in
    let first : AreDrawn scope wanted f.params = subst (λ (s : TextSet). AreDrawn s wanted f.params) start dp in
    let second : AreDrawn (with_texts scope f.params) (temporaries steps) temps =
    subst (λ (s : TextSet). AreDrawn s (temporaries steps) temps) (a ∙ ap (λ (s : TextSet). with_texts s f.params) start)
    (subst (λ (ws : List (List ℕ)). AreDrawn after ws temps) o dt) in
    let temp_idents = drawn_idents (with_texts scope f.params) (temporaries steps) temps second in
    let apart : (x : List ℕ) → IsIn x temps → IsAway x (value_names form f.params) = λ x k.
    values_away form x temps f.params temp_idents k (λ i.
    drawn_new (with_texts scope f.params) (temporaries steps) temps x second k (with_texts_there scope f.params x i)) in
    let enough : length temps ≡ length (temporaries steps) = length-drawn (with_texts scope f.params) (temporaries steps) temps second in
    record {
      temps = temps;
      count = length-drawn scope wanted f.params first;
      drawn = drawn-append scope wanted (temporaries steps) f.params temps first second;
      tree = tree;
      words = words;
      untyped = untyped;
      meaning = λ thing_of knows args answers.
          ap (λ l. tree_meaning thing_of l (locals_of (value_names form f.params) args) answers) tree
          ∙ whole form steps f.params temps
          (values_distinct form f.params (drawn_idents scope wanted f.params first) (drawn_distinct scope wanted f.params first))
          (drawn_distinct (with_texts scope f.params) (temporaries steps) temps second)
          apart (omega (arith, enough)) thing_of knows args answers;
    }
