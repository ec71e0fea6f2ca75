-- The tree of any steps is fit: names are identifiers, and its words are spaced.
use Rattle.std.proofs.Common.{◌≡◌, ℕ, ◌≤◌, List, [], ◌∷◌, length, map, refl, ap, ◌∙◌, Bool, true, false}
use Rattle.std.proofs.lemmas.Bool.{and_parts}
use Rattle.std.specs.Prelude.{◌&&◌, not, codes}
use Rattle.std.specs.List.{list_all}
use Rattle.glue_words.specs.Ident.{is_ident}
use Rattle.glue_words.specs.Spacing.{is_wasm}
use Rattle.glue_words.proofs.Idents.{ascii_ident, ascii_prop}
use Rattle.glue_tree.specs.Term.{Export, Lines, NoLines}
use Rattle.glue_tree.specs.Plainly.{terms_of}
use Rattle.glue_tree.proofs.Fit.{fit, all_fit, line_fit, lines_fit}
use Rattle.glue_steps.specs.declared.step.Step.{Step}
use Rattle.glue_operands.specs.Spelling.{Plain, Missing, This, Local, Unsigned, NotZero, term_of, terms}
use Rattle.glue_binding.specs.Spelling.{write_call, address_term, load_call, store_call, closure_call, Piece, Ahead, Cleanup, pieces_of, nested, tree_of, temporaries}
use Rattle.glue_operands.specs.Form.{first_if, parameters_of}
use Rattle.glue_operands.specs.declared.form.Form.{Form}
use Rattle.glue_operands.proofs.Each.{Each}
use Rattle.glue_operands.proofs.Standing.{IsNamed, step_fit, fitting, steps_each, run_stands, bound_stands}
use Rattle.glue_binding.proofs.Rowwise.{IsRowwise, AllHave, pieces_have}

and_true : (a b : Bool) → a ≡ true → b ≡ true → (a && b) ≡ true
and_true a b h k = ap (λ x. x && b) h ∙ k

-- ---- fit

abbrev IsName : List ℕ → Type 0
IsName name = is_ident name ≡ true

plain_fit : (p : Plain) → IsNamed p → fit (term_of p) ≡ true
plain_fit Missing h = refl
plain_fit This h = refl
plain_fit (Local name) h = h
plain_fit (Unsigned p) h = and_true _ _ (plain_fit p h) refl
plain_fit (NotZero p) h = and_true _ _ (plain_fit p h) refl

terms_fit : (ps : List Plain) → Each IsNamed ps → all_fit (terms ps) ≡ true
terms_fit [] h = refl
terms_fit (p ∷ ps) h = and_true _ _ (plain_fit p h.0) (terms_fit ps h.1)

-- what is written to memory
exports_fit : (names : List (List ℕ)) → all_fit (terms_of (map Export names)) ≡ true
exports_fit [] = refl
exports_fit (name ∷ names) = exports_fit names

write_fit : (helper : List ℕ) (exports : List (List ℕ)) (p : Plain) → (is_ident helper && not (is_wasm helper)) ≡ true → IsNamed p
    → fit (write_call helper exports p) ≡ true
write_fit helper exports p f h = and_true _ _ f (and_true _ _ (plain_fit p h) (exports_fit exports))

address_fit : (optional : Bool) (helper : List ℕ) (exports : List (List ℕ)) (p : Plain) → (is_ident helper && not (is_wasm helper)) ≡ true
    → IsNamed p → fit (address_term optional helper exports p) ≡ true
address_fit false helper exports p f h = write_fit helper exports p f h
address_fit true helper exports p f h =
    and_true _ _ (rw (ascii_ident (codes "isLikeNone") refl) (terms_fit (p ∷ []) (h, tt))) (write_fit helper exports p f h)

-- what is read from room for results, and written there
load_fit : (view : List ℕ) (offset : ℕ) (is_wide : Bool) (p : Plain) → (is_ident view && not (is_wasm view)) ≡ true → IsNamed p
    → fit (load_call view offset is_wide p) ≡ true
load_fit view offset false p f h =
    and_true _ _ (and_true _ _ (and_true _ _ f refl) (ascii_prop (codes "getInt32") refl)) (and_true _ _ (and_true _ _ (plain_fit p h) refl) refl)
load_fit view offset true p f h =
    and_true _ _ (and_true _ _ (and_true _ _ f refl) (ascii_prop (codes "getBigInt64") refl)) (and_true _ _ (and_true _ _ (plain_fit p h) refl) refl)

store_fit : (view : List ℕ) (offset : ℕ) (is_wide : Bool) (p q : Plain) → (is_ident view && not (is_wasm view)) ≡ true → IsNamed p → IsNamed q
    → fit (store_call view offset is_wide p q) ≡ true
store_fit view offset false p q f h k =
    and_true _ _ (and_true _ _ (and_true _ _ f refl) (ascii_prop (codes "setInt32") refl))
    (and_true _ _ (and_true _ _ (plain_fit p h) refl) (and_true _ _ (plain_fit q k) refl))
store_fit view offset true p q f h k =
    and_true _ _ (and_true _ _ (and_true _ _ f refl) (ascii_prop (codes "setBigInt64") refl))
    (and_true _ _ (and_true _ _ (plain_fit p h) refl) (and_true _ _ (plain_fit q k) refl))

-- what a helper makes a closure by
closure_fit : (helper function : List ℕ) (p q : Plain)
    → ((is_ident helper && not (is_wasm helper)) && (is_ident function && not (is_wasm function))) ≡ true → IsNamed p → IsNamed q
    → fit (closure_call helper function (p ∷ q ∷ [])) ≡ true
closure_fit helper function p q f h k =
    let names = and_parts (is_ident helper && not (is_wasm helper)) (is_ident function && not (is_wasm function)) f in
    and_true _ _ names.0 (and_true _ _ (plain_fit p h) (and_true _ _ (plain_fit q k) (and_true _ _ names.1 refl)))

fits : IsRowwise (λ l. line_fit l ≡ true) IsNamed IsName (λ s. step_fit s ≡ true)
fits = record {
  missing = tt;
  local = λ x h. h;
  unsigned = λ p h. h;
  not_zero = λ p h. h;
  ends = λ p h. plain_fit p h;
  export_runs = λ name n f args h. terms_fit args h;
  export_binds = λ name n f x d args h. and_true _ _ d (terms_fit args h);
  import_runs = λ adapter n e f locals c l args h. run_stands e (fitting e f) locals c l args h;
  import_binds = λ adapter n e f locals c l x d args h. bound_stands e (fitting e f) locals c l args h x d;
  reads = λ f x d p h. and_true _ _ d (and_true _ _ (rw (ascii_ident (codes "BigInt") refl, ascii_prop (codes "asUintN") refl) refl)
      (terms_fit (p ∷ []) (h, tt)));
  calls = λ helper n f x d args h. and_true _ _ d (and_true _ _ f (terms_fit args h));
  borrows = λ f x d p h. and_true _ _ d (rw (ascii_ident (codes "addBorrowedObject") refl)
      (terms_fit (p ∷ []) (h, tt)));
  gives_back = λ f. rw (
    ascii_ident (codes "heap") refl,
    ascii_ident (codes "stack_pointer") refl,
    ascii_ident
        (codes "undefined") refl,
  ) refl;
  throws = λ helper f p q h k. and_true _ _ (plain_fit p h) (and_true _ _
      (and_true _ _ f (terms_fit (q ∷ []) (k, tt))) refl);
  writes = λ helper exports optional f x d p h. and_true _ _ d (address_fit optional helper exports p f h);
  lengths = λ helper exports optional f x d. and_true _ _ d (rw (ascii_ident (codes "WASM_VECTOR_LEN") refl) refl);
  frees = λ free align f p q h k. terms_fit (p ∷ q ∷ []) (h, (k, tt));
  copies = λ helper f x d args h. and_true _ _ d (and_true _ _ (and_true _ _ (and_true _ _ f (terms_fit args h))
      (ascii_prop (codes "slice") refl)) refl);
  takes_room = λ size f x d. and_true _ _ d refl;
  gives_room_back = λ size f. refl;
  loads = λ view offset is_wide f x d p h. and_true _ _ d (load_fit view offset is_wide p f h);
  stores = λ view offset is_wide f p q h k. store_fit view offset is_wide p q f h k;
  makes = λ helper function f x d p q h k. and_true _ _ d (closure_fit helper function p q f h k);
  finds = λ list f x d p h. and_true _ _ d (and_true _ _ (and_true _ _ f (ascii_prop (codes "indexOf") refl)) (terms_fit (p ∷ []) (h, tt)));
  picks = λ list f x d p h. and_true _ _ d (and_true _ _ f (plain_fit p h));
}

nested_fit : (pieces : List Piece) (rest : Lines) → AllHave (λ l. line_fit l ≡ true) pieces → lines_fit rest ≡ true
    → lines_fit (nested pieces rest) ≡ true
nested_fit [] rest h k = k
nested_fit (Ahead l ∷ pieces) rest h k = and_true _ _ h.0 (nested_fit pieces rest h.1 k)
nested_fit (Cleanup l ∷ pieces) rest h k = and_true _ _
    (and_true _ _ (nested_fit pieces rest h.1 k) (and_true _ _ h.0 refl)) refl

names_each : (names : List (List ℕ)) → list_all is_ident names ≡ true → Each IsName names
names_each [] h = tt
names_each (name ∷ names) h = let parts = and_parts (is_ident name) (list_all is_ident names) h in
    (parts.0, names_each names parts.1)

locals_each : (names : List (List ℕ)) → list_all is_ident names ≡ true → Each IsNamed (map Local names)
locals_each [] h = tt
locals_each (name ∷ names) h = let parts = and_parts (is_ident name) (list_all is_ident names) h in
    (parts.0, locals_each names parts.1)

params_each : (form : Form) (names : List (List ℕ)) → list_all is_ident names ≡ true → Each IsNamed (parameters_of form names)
params_each form names h = by form.takes_this
  where
    by : (takes_this : Bool) → Each IsNamed (first_if takes_this This (map Local names))
    by true = (tt, locals_each names h)
    by false = locals_each names h

-- the tree of any steps with identifiers as their names is fit
pub tree_fit : (form : Form) (steps : List Step) (params temps : List (List ℕ)) → list_all step_fit steps ≡ true
    → length (temporaries steps) ≤ length temps → list_all is_ident params ≡ true → list_all is_ident temps ≡ true
    → lines_fit (tree_of steps (parameters_of form params) temps) ≡ true
tree_fit form steps params temps f le p m =
    nested_fit (pieces_of steps (parameters_of form params) [] temps) NoLines
    (pieces_have fits steps (parameters_of form params) [] temps 0 (steps_each steps f) le (params_each form params p) tt
    (names_each temps m)) refl
