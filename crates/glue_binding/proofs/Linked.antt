-- The item of a function that `bind` gives is linked: what is asked of it is asked of the words around the function and
-- of what the
-- steps bring along.
use Rattle.std.proofs.Common.{◌≡◌, ℕ, ◌≤◌, List, [], ◌∷◌, ◌++◌, length, length-append, inl, inr, refl, ap, sym, ◌∙◌, subst, true, arith, Bool}
use Rattle.std.proofs.lemmas.Bool.{and_parts}
use Rattle.std.proofs.lemmas.List.{append-nil}
use Rattle.std.proofs.lemmas.List.Folds.{list_all-append}
use Rattle.std.proofs.lemmas.List.Elements.{filter_map-append}
use Rattle.std.specs.Prelude.{Option, None, ◌&&◌}
use Rattle.std.specs.FinSet as set
use Rattle.std.specs.List.{list_all, filter_map}
use Rattle.values.specs.Lists.{IsIn, AreApart}
use Rattle.values.specs.TextSet.{with_texts}
use Rattle.glue_words.specs.declared.word.Word.{Word}
use Rattle.glue_words.specs.declared.word.Word.TheVariants as w
use Rattle.glue_words.specs.Ident.{is_ident}
use Rattle.glue_words.specs.Limits.{is_computed}
use Rattle.glue_words.specs.Names.{bound_name, bound_in, used_name, hosted_name, local_name, local_bound_name, wasm_name, spliced_key, used_in, hosted_in, local_in, local_bound_in, wasm_in, spliced_in}
use Rattle.glue_words.specs.Linking.{AreAmong, KeepsLocals, Resolves, TakesExports, TakesKeys}
use Rattle.glue_words.proofs.Belonging.{StandAlone}
use Rattle.glue_words.proofs.Among.{among_left, among_right, among_both, among_trans, apart_by, apart_swap, apart_among, apart_joined, apart_split}
use Rattle.glue_scope.proofs.Drawn.{length-drawn, drawn_new, drawn_distinct, drawn_idents, with_texts_there, with_texts_keeps}
use Rattle.glue_tree.specs.Plainly.{plain_stmts}
use Rattle.glue_tree.specs.Spelling.{function_words}
use Rattle.glue_tree.specs.Term.{Lines}
use Rattle.glue_tree.specs.declared.tree.JsFunction.{JsFunction}
use Rattle.glue_tree.proofs.Fit.{is_inner, lines_fit}
use Rattle.glue_tree.proofs.Functions.{IsFrame, bound_kind, used_kind, hosted_kind, local_kind, local_bound_kind, wasm_kind, spliced_kind}
use Rattle.glue_tree.proofs.Names.{IsKind}
use Rattle.glue_steps.specs.declared.step.Step.{Step}
use Rattle.glue_operands.specs.Spelling.{Plain}
use Rattle.glue_binding.specs.Spelling.{tree_of, temporaries}
use Rattle.glue_operands.specs.Form.{parameters_of, form_words}
use Rattle.glue_operands.specs.declared.form.Form.{Form}
use Rattle.glue_binding.specs.Outer.{outer_in, outer_list, seed_words, outer_names}
use Rattle.glue_binding.specs.Binding.{outer_scope, IsBoundFunction, AreOwn}
use Rattle.glue_binding.proofs.Outer.{IsOuter, outer_is_seed}
use Rattle.glue_binding.proofs.Outside.{outside_of, outside_among, locals_among, function_declares}
use Rattle.glue_operands.proofs.Standing.{step_fit}
use Rattle.glue_binding.proofs.Fits.{tree_fit}
use Rattle.glue_operands.proofs.FormWords.{form_found, form_alone, form_named, form_inner}

-- ---- kinds of names from outside

used_outer : IsOuter used_name
used_outer = record { is = used_kind; bound = λ n. refl; local = λ n. refl }

hosted_outer : IsOuter hosted_name
hosted_outer = record { is = hosted_kind; bound = λ n. refl; local = λ n. refl }

wasm_outer : IsOuter wasm_name
wasm_outer = record { is = wasm_kind; bound = λ n. refl; local = λ n. refl }

bound_outer : IsOuter bound_name
bound_outer = record { is = bound_kind; bound = λ n. refl; local = λ n. refl }

-- names among none are none
none_among : (names : List (List ℕ)) → AreAmong names [] → names ≡ []
none_among [] h = refl
none_among (name ∷ names) h = absurd h.0

spliced_outer : IsOuter spliced_key
spliced_outer = record { is = spliced_kind; bound = λ n. refl; local = λ n. refl }

-- the names from outside in the words that no names are drawn for are those that are reserved
used_listed : (words : List Word) → AreAmong (used_in words) (outer_list words)
used_listed [] = tt
used_listed (w.Refer name now ∷ words) = among_both (name ∷ []) (used_in words) (outer_list (w.Refer name now ∷ words))
    (among_left (name ∷ []) (name ∷ []) (outer_list words) (inl refl, tt))
    (among_right (used_in words) (name ∷ []) (outer_list words) (used_listed words))
used_listed (w.Host name now ∷ words) = among_right (used_in words) (name ∷ []) (outer_list words) (used_listed words)
used_listed (word ∷ words) = used_listed words

hosted_listed : (words : List Word) → AreAmong (hosted_in words) (outer_list words)
hosted_listed [] = tt
hosted_listed (w.Host name now ∷ words) = among_both (name ∷ []) (hosted_in words)
    (outer_list (w.Host name now ∷ words)) (among_left (name ∷ []) (name ∷ []) (outer_list words) (inl refl, tt))
    (among_right (hosted_in words) (name ∷ []) (outer_list words) (hosted_listed words))
hosted_listed (w.Refer name now ∷ words) = among_right (hosted_in words) (name ∷ []) (outer_list words)
    (hosted_listed words)
hosted_listed (word ∷ words) = hosted_listed words

-- names apart from those that are reserved are apart from those of the function's words
apart_outer : (steps : List Step) (printed : List (List ℕ)) (params : List Plain) (temps names : List (List ℕ)) → AreApart names (outer_names steps)
    → AreApart names (outer_in (function_words printed (tree_of steps params temps)))
apart_outer steps printed params temps names h =
    let seed = seed_words steps in
    subst (AreApart names) (sym (outer_is_seed steps printed params temps))
    (apart_swap (outer_in seed) names
    (apart_among (outer_in seed) (outer_list seed) names
    (among_both (used_in seed) (hosted_in seed) (outer_list seed) (used_listed seed) (hosted_listed seed))
    (apart_swap names (outer_list seed) h)))

-- ---- words around a function

-- words that stand before or behind a function with these locals: they have no locals, and no name that the function's
-- locals hide
pub record StandsBeside (own : List (List ℕ)) (words : List Word) : Type 0 where
  pub unused : local_in words ≡ []
  pub undeclared : local_bound_in words ≡ []
  pub apart : AreApart own (outer_in words)

module _ (front inside back : List Word) where
  joined_names : (kind : Word → Option (List ℕ)) → filter_map kind (front ++ (inside ++ back)) ≡ filter_map kind front
      ++ (filter_map kind inside ++ filter_map kind back)
  joined_names kind = filter_map-append kind front (inside ++ back)
      ∙ ap (λ (ns : List (List ℕ)). filter_map kind front ++ ns) (filter_map-append kind inside back)

  -- the names of the whole are those of its parts
  among_item : (kind : Word → Option (List ℕ)) (ys : List (List ℕ)) → AreAmong (filter_map kind front) ys
      → AreAmong (filter_map kind inside) ys → AreAmong (filter_map kind back) ys
      → AreAmong (filter_map kind (front ++ (inside ++ back))) ys
  among_item kind ys f i b =
      subst (λ (ns : List (List ℕ)). AreAmong ns ys) (sym (joined_names kind))
      (among_both (filter_map kind front) (filter_map kind inside ++ filter_map kind back) ys f
      (among_both (filter_map kind inside) (filter_map kind back) ys i b))

  apart_item : (kind : Word → Option (List ℕ)) (own : List (List ℕ)) → AreApart own (filter_map kind front)
      → AreApart own (filter_map kind inside) → AreApart own (filter_map kind back)
      → AreApart own (filter_map kind (front ++ (inside ++ back)))
  apart_item kind own f i b =
      subst (AreApart own) (sym (joined_names kind))
      (apart_joined own (filter_map kind front) (filter_map kind inside ++ filter_map kind back) f
      (apart_joined own (filter_map kind inside) (filter_map kind back) i b))

  -- of a kind that the words around have none of
  alone_names : (kind : Word → Option (List ℕ)) → filter_map kind front ≡ [] → filter_map kind back ≡ []
      → filter_map kind (front ++ (inside ++ back)) ≡ filter_map kind inside
  alone_names kind f b =
      joined_names kind
      ∙ ap (λ (ns : List (List ℕ)). ns ++ (filter_map kind inside ++ filter_map kind back)) f
      ∙ ap (λ (ns : List (List ℕ)). filter_map kind inside ++ ns) b
      ∙ append-nil (filter_map kind inside)

-- each item of a list that passes passes, and joined lists
one_all : (x : List ℕ) (ys : List (List ℕ)) → IsIn x ys → list_all is_computed ys ≡ true → is_computed x ≡ true
one_all x [] at k = absurd at
one_all x (y ∷ ys) (inl same) k = ap is_computed same ∙ (and_parts (is_computed y) (list_all is_computed ys) k).0
one_all x (y ∷ ys) (inr at) k = one_all x ys at (and_parts (is_computed y) (list_all is_computed ys) k).1

all_joined : (xs ys : List (List ℕ)) → list_all is_computed xs ≡ true → list_all is_computed ys ≡ true
    → list_all is_computed (xs ++ ys) ≡ true
all_joined xs ys h k = list_all-append is_computed xs ys ∙ ap (λ (b : Bool). b && list_all is_computed ys) h ∙ k

among_all : (xs ys : List (List ℕ)) → AreAmong xs ys → list_all is_computed ys ≡ true → list_all is_computed xs ≡ true
among_all [] ys h k = refl
among_all (x ∷ xs) ys h k = ap (λ (b : Bool). b && list_all is_computed xs) (one_all x ys h.0 k) ∙ among_all xs ys h.1 k

-- ---- names that `bind` draws

-- the names of a bound function are its own
pub own_names : (form : Form) (steps : List Step) (wanted around : List (List ℕ)) (f : JsFunction) (b : IsBoundFunction form steps wanted around f)
    → AreOwn steps (f.params ++ b.temps)
own_names form steps wanted around f b =
    let scope = outer_scope steps around in
    let outer = with_texts set.empty (outer_names steps) in
    let all = wanted ++ temporaries steps in
    let names = f.params ++ b.temps in record {
      distinct = drawn_distinct scope all names b.drawn;
      idents = drawn_idents scope all names b.drawn;
      apart = apart_by names (outer_names steps) (λ x k i. drawn_new scope all names x b.drawn k
          (with_texts_keeps outer around x (with_texts_there set.empty (outer_names steps) x i)));
    }

-- and they are apart from those that stand around it
pub around_apart : (form : Form) (steps : List Step) (wanted around : List (List ℕ)) (f : JsFunction) (b : IsBoundFunction form steps wanted around f)
    → AreApart (f.params ++ b.temps) around
around_apart form steps wanted around f b =
    let scope = outer_scope steps around in
    let outer = with_texts set.empty (outer_names steps) in
    let names = f.params ++ b.temps in
    apart_by names around (λ x k i. drawn_new scope (wanted ++ temporaries steps) names x b.drawn k (with_texts_there outer around x i))

-- as many temporaries as the steps want
pub bound_count : (form : Form) (steps : List Step) (wanted around : List (List ℕ)) (f : JsFunction) (b : IsBoundFunction form steps wanted around f)
    → length (temporaries steps) ≡ length b.temps
bound_count form steps wanted around f b =
    let all : length (f.params ++ b.temps) ≡ length (wanted ++ temporaries steps) = length-drawn (outer_scope steps around)
    (wanted ++ temporaries steps) (f.params ++ b.temps) b.drawn in
    let split = length-append f.params b.temps in
    let split' = length-append wanted (temporaries steps) in
    let count = b.count in
    omega (arith, all, split, split', count)

-- ---- the theorem

-- the function of any steps, with words before and behind it
module _ (form : Form) (steps : List Step) (wanted around : List (List ℕ)) (f : JsFunction) (b : IsBoundFunction form steps wanted around f)
    (front back : List Word) where
  -- the names that are drawn
  abbrev own : List (List ℕ)
  own = f.params ++ b.temps

  -- the words of the function
  abbrev inside : List Word
  inside = form_words form f.params (plain_stmts f.tree)

  -- the words of the item
  abbrev whole : List Word
  whole = front ++ (inside ++ back)

  enough : length (temporaries steps) ≤ length b.temps
  enough = let count = bound_count form steps wanted around f b in omega (arith, count)

  -- the names in the words are those in the words of any function of the table of steps
  same_names : (kind : Word → Option (List ℕ)) → IsKind kind
      → filter_map kind inside ≡ filter_map kind (function_words f.params (tree_of steps (parameters_of form f.params) b.temps))
  same_names kind is = form_found kind is form f.params (plain_stmts f.tree) ∙ ap (λ (body : Lines). filter_map kind (function_words f.params body)) b.tree

  outside : (kind : Word → Option (List ℕ)) → IsOuter kind → AreAmong (filter_map kind inside) (filter_map kind (outside_of steps))
  outside kind outer = subst (λ (ns : List (List ℕ)). AreAmong ns (filter_map kind (outside_of steps))) (sym (same_names kind outer.is))
      (outside_among kind outer form steps f.params b.temps enough)

  hides : AreApart own (outer_in inside)
  hides =
      let tree = tree_of steps (parameters_of form f.params) b.temps in
      subst (λ (ns : List (List ℕ)). AreApart own (ns ++ hosted_in inside)) (sym (same_names used_name used_kind))
      (subst (λ (ns : List (List ℕ)). AreApart own (used_in (function_words f.params tree) ++ ns)) (sym (same_names hosted_name hosted_kind))
      (apart_outer steps f.params (parameters_of form f.params) b.temps own (own_names form steps wanted around f b).apart))

  among : (kind : Word → Option (List ℕ)) → IsOuter kind → (ys : List (List ℕ)) → AreAmong (filter_map kind front) ys
      → AreAmong (filter_map kind (outside_of steps)) ys → AreAmong (filter_map kind back) ys → AreAmong (filter_map kind whole) ys
  among kind outer ys h k l =
      among_item front inside back kind ys h (among_trans (filter_map kind inside) (filter_map kind (outside_of steps)) ys
      (outside kind outer) k) l

  -- the function declares no name of the module's scope, where the steps bring none along
  pub bound_binds : bound_in (outside_of steps) ≡ [] → bound_in inside ≡ []
  bound_binds none = none_among (bound_in inside) (subst (AreAmong (bound_in inside)) none (outside bound_name bound_outer))

  pub bound_resolved : (hosts declared : List (List ℕ)) → Resolves hosts declared front
      → Resolves hosts declared (outside_of steps) → Resolves hosts declared back → Resolves hosts declared whole
  bound_resolved hosts declared h k l = record {
    bound = among used_name used_outer declared h.bound k.bound l.bound;
    known = among hosted_name hosted_outer hosts h.known k.known l.known;
  }

  pub bound_keyed : (keys : List (List ℕ)) → TakesKeys keys front → TakesKeys keys (outside_of steps)
      → TakesKeys keys back → TakesKeys keys whole
  bound_keyed keys h k l =
      let inner = among_all (spliced_in inside) (spliced_in (outside_of steps))
      (outside spliced_key spliced_outer) k.formed in
      record {
        known = among spliced_key spliced_outer keys h.known k.known l.known;
        formed = ap (list_all is_computed) (joined_names front inside back spliced_key)
            ∙ all_joined (spliced_in front) (spliced_in inside ++ spliced_in back) h.formed
            (all_joined (spliced_in inside) (spliced_in back) inner l.formed);
      }

  module _ (fit : list_all step_fit steps ≡ true) where
    declares : local_bound_in inside ≡ own
    declares = same_names local_bound_name local_bound_kind
        ∙ function_declares steps f.params (parameters_of form f.params) b.temps fit (bound_count form steps wanted around f b)

    uses : AreAmong (local_in inside) own
    uses = subst (λ (ns : List (List ℕ)). AreAmong ns own) (sym (same_names local_name local_kind))
        (locals_among form steps f.params b.temps fit enough)

    pub bound_local : StandsBeside own front → StandsBeside own back → KeepsLocals whole
    bound_local h k =
        let same = alone_names front inside back local_bound_name h.undeclared k.undeclared ∙ declares in
        let f-parts = apart_split own (used_in front) (hosted_in front) h.apart in
        let i-parts = apart_split own (used_in inside) (hosted_in inside) hides in
        let b-parts = apart_split own (used_in back) (hosted_in back) k.apart in
        record {
          bound = subst (AreAmong (local_in whole)) (sym same)
              (subst (λ (ns : List (List ℕ)). AreAmong ns own)
              (sym (alone_names front inside back local_name h.unused k.unused)) uses);
          apart = subst (λ (ns : List (List ℕ)). AreApart ns (outer_in whole)) (sym same)
              (apart_joined own (used_in whole) (hosted_in whole)
              (apart_item front inside back used_name own f-parts.0 i-parts.0 b-parts.0)
              (apart_item front inside back hosted_name own f-parts.1 i-parts.1 b-parts.1));
        }

    idents : (list_all is_ident f.params ≡ true) × (list_all is_ident b.temps ≡ true)
    idents = and_parts (list_all is_ident f.params) (list_all is_ident b.temps)
        (sym (list_all-append is_ident f.params b.temps) ∙ (own_names form steps wanted around f b).idents)

    body_fit : lines_fit (plain_stmts f.tree) ≡ true
    body_fit = ap lines_fit b.tree ∙ tree_fit form steps f.params b.temps fit enough idents.0 idents.1

    pub bound_alone : IsFrame front back → StandAlone whole
    bound_alone frame = form_alone frame form f.params (plain_stmts f.tree) idents.0 body_fit

    -- no word of the function is `export`
    pub bound_inner : IsFrame front back → list_all is_inner inside ≡ true
    bound_inner frame = form_inner frame form f.params (plain_stmts f.tree) idents.0 body_fit

    pub bound_exported : IsFrame front back → (exports : List (List ℕ)) → AreAmong (wasm_in front) exports
        → AreAmong (wasm_in (outside_of steps)) exports → AreAmong (wasm_in back) exports
        → TakesExports exports whole None
    bound_exported frame exports h k l = record {
      known = among wasm_name wasm_outer exports h k l;
      named = form_named frame form f.params (plain_stmts f.tree) idents.0 body_fit;
    }
