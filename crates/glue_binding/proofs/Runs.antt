-- The statements do what the steps do.
use Rattle.std.proofs.Common.{◌≡◌, ℕ, zero, suc, ◌≤◌, List, [], ◌∷◌, ◌++◌, length, map, Option, Some, None, Bool, true, false, inl, inr, refl, sym, ap, ◌∙◌, subst, arith, append_assoc}
use Rattle.std.specs.Prelude.{pos, nat_eq, if◌then◌else◌, codes}
use Rattle.std.specs.Bool.{Decides}
use Rattle.std.specs.List.{flat_map}
use Rattle.std.specs.Cmp.Lexicographic.{pointwise}
use Rattle.std.proofs.lemmas.List.{map-append}
use Rattle.std.proofs.lemmas.Slice.Eq.{bytes_eq-Decides}
use Rattle.values.specs.Lists.{IsIn, IsAway, AreDistinct}
use Rattle.values.proofs.Members.{in_left, in_right}
use Rattle.values.specs.Value.{Thing, Helper, OfExport, Value, Undefined, Null, Number, Entry, Reads, Calls, CallsOn, CallsAdapter, Answer, Ran, Went, Threw, Ended, Act, goes_on, step, and_then_cleans, is_true, unsigned, is_not_zero}
use Rattle.glue_tree.specs.Term.{Export, Line, Run, Fail, Lines, NoLines, AndLine}
use Rattle.glue_tree.specs.Plainly.{terms_of}
use Rattle.glue_tree.specs.TreeMeaning.{Locals, locals_of, value_in, if_true, value_of, values_of, unless_left, and_always, runs, tree_meaning}
use Rattle.glue_steps.specs.Stack.{top, below, item_at, last_of, operands, without}
use Rattle.glue_steps.specs.AdapterMeaning.{Left, gives_back, throws_if, unsigned_64, exports_of, writes, unless_absent, address_of, frees, copies, takes_room, gives_room_back, loads, stores, makes, index_of, item_of, known, helpers_of, act, cleans, after_act, newest, means, seen, adapter_meaning}
use Rattle.glue_steps.specs.declared.step.Step.{Step}
use Rattle.glue_steps.specs.declared.step.Step.TheVariants.{Parameter, Unchanged, CallExport, CallImport, ToUnsigned, IsNotZero, ToUnsigned64, CallHelper, IndexFromBorrow, UnwrapResult, PassToMemory, DeferFree, CopyOut, ReturnPointer, LoadReturn, StoreReturn, MakeClosure, IndexOf, ItemAt}
use Rattle.glue_operands.specs.Spelling.{Plain, Missing, This, Local, Unsigned, NotZero, term_of, plain_value, terms}
use Rattle.glue_binding.specs.Spelling.{helper_call, unsigned_64_call, next_names, gives_back_line, write_call, address_term, free_line, copy_call, mover_call, load_call, store_call, closure_call, index_call, item_term, import_row, pieces_of, cleaned_by, nested, tree_of, result_of, wanted_from, counted, temporaries}
use Rattle.glue_operands.specs.Form.{parameters_of, value_names, first_if}
use Rattle.glue_operands.specs.declared.form.Form.{Form}
use Rattle.glue_binding.specs.Binding.{KnowsHelpers}
use Rattle.glue_imports.specs.declared.part.Expression.{Expression}
use Rattle.glue_operands.proofs.Each.{Each, each_both, each_item, each_top, each_below, each_without}
use Rattle.glue_binding.proofs.Coming.{left_enough}

-- ---- laws of runs, each by the three ways that a run can come to

-- a step of both runs, and then the rest
one_step : {A : Type 0} (ran : Ran A) (f : A → Act (Option Value)) (g : A → Act Left)
    (next : List Value → List (Act Value) → Act (Option Value))
    → ((a : A) (trace : List Entry) (answers : List Answer) → f a trace answers ≡ after_act (g a trace answers) [] next)
    → goes_on ran f ≡ after_act (goes_on ran g) [] next
one_step (Went a trace answers) f g next h = h a trace answers
one_step (Threw v trace answers) f g next h = refl
one_step (Ended trace) f g next h = refl

-- the same goes on
goes_alike : {A B : Type 0} (ran : Ran A) (f g : A → Act B)
    → ((a : A) (trace : List Entry) (answers : List Answer) → f a trace answers ≡ g a trace answers) → goes_on ran f ≡ goes_on ran g
goes_alike (Went a trace answers) f g h = h a trace answers
goes_alike (Threw v trace answers) f g h = refl
goes_alike (Ended trace) f g h = refl

-- a value in front of others, and then a step with all of them
gathered : (ran : Ran (List Value)) (v : Value) (next : List Value → Act Value)
    → goes_on (goes_on ran (λ vs. Went (v ∷ vs))) next ≡ goes_on ran (λ vs. next (v ∷ vs))
gathered (Went vs trace answers) v next = refl
gathered (Threw u trace answers) v next = refl
gathered (Ended trace) v next = refl

-- a value behind two others, and then a step with all of them
gathered_last : (ran : Ran Value) (u v : Value) (next : List Value → Act Value)
    → goes_on (goes_on (goes_on (goes_on ran (λ w. Went (w ∷ []))) (λ vs. Went (v ∷ vs))) (λ vs. Went (u ∷ vs))) next
    ≡ goes_on ran (λ w. next (u ∷ v ∷ w ∷ []))
gathered_last (Went w trace answers) u v next = refl
gathered_last (Threw w trace answers) u v next = refl
gathered_last (Ended trace) u v next = refl

nothing_after : (ran : Ran (Option Value)) → unless_left ran (Went None) ≡ ran
nothing_after (Went None trace answers) = refl
nothing_after (Went (Some v) trace answers) = refl
nothing_after (Threw v trace answers) = refl
nothing_after (Ended trace) = refl

left_by : (ran : Ran Value) (next : Act (Option Value))
    → unless_left (goes_on ran (λ v. Went None)) next ≡ goes_on ran (λ v. next)
left_by (Went v trace answers) next = refl
left_by (Threw v trace answers) next = refl
left_by (Ended trace) next = refl

-- `finally` is the cleanup
finally : (ran : Ran (Option Value)) (last : Act (Option Value)) (cleanup : Act Value)
    → ((trace : List Entry) (answers : List Answer) → last trace answers
    ≡ goes_on (cleanup trace answers) (λ v. Went None)) → and_always ran last ≡ and_then_cleans ran cleanup
finally (Went o trace answers) last cleanup h = ap (λ r. unless_left r (Went o)) (h trace answers)
    ∙ left_by (cleanup trace answers) (Went o)
finally (Threw v trace answers) last cleanup h = ap (λ r. unless_left r (Threw v)) (h trace answers)
    ∙ left_by (cleanup trace answers) (Threw v)
finally (Ended trace) last cleanup h = refl

-- the oldest cleanup goes last
cleans_last : (cleanups : List (Act Value)) (c : Act Value) (ran : Ran (Option Value))
    → cleans (cleanups ++ c ∷ []) ran ≡ and_then_cleans (cleans cleanups ran) c
cleans_last [] c ran = refl
cleans_last (d ∷ cleanups) c ran = cleans_last cleanups c (and_then_cleans ran d)

act_last : (ran : Ran Left) (cleanups : List (Act Value)) (c : Act Value)
    (next : List Value → List (Act Value) → Act (Option Value))
    → ((stack : List Value) (ds : List (Act Value)) (trace : List Entry) (answers : List Answer)
    → next stack (ds ++ c ∷ []) trace answers ≡ and_then_cleans (next stack ds trace answers) c)
    → after_act ran (cleanups ++ c ∷ []) next ≡ and_then_cleans (after_act ran cleanups next) c
act_last (Went left trace answers) cleanups c next h =
    ap (λ ds. next left.0 ds trace answers) (sym (append_assoc left.1 cleanups (c ∷ [])))
    ∙ h left.0 (left.1 ++ cleanups) trace answers
act_last (Threw v trace answers) cleanups c next h = cleans_last cleanups c (Threw v trace answers)
act_last (Ended trace) cleanups c next h = refl

means_last : (steps : List Step) (args stack : List Value) (cleanups : List (Act Value)) (c : Act Value)
    (trace : List Entry) (answers : List Answer) → means steps args stack (cleanups ++ c ∷ []) trace answers
    ≡ and_then_cleans (means steps args stack cleanups trace answers) c
means_last [] args stack cleanups c trace answers = cleans_last cleanups c (Went (newest stack) trace answers)
means_last (s ∷ steps) args stack cleanups c trace answers =
    act_last (act s args stack trace answers) cleanups c (λ left. means steps (known Null s args left) left)
    (λ left ds. means_last steps (known Null s args left) left ds c)

-- ---- locals

not_same : (b : Bool) {x y : List ℕ} → Decides b (x ≡ y) → (x ≡ y → ⊥) → b ≡ false
not_same false d h = refl
not_same true d h = absurd (h (d.0 refl))

hit : (x : List ℕ) (v : Value) (env : Locals) → value_in ((x, v) ∷ env) x ≡ v
hit x v env = ap (λ b. if b then v else value_in env x) ((bytes_eq-Decides x x).1 refl)

miss : (x y : List ℕ) (v : Value) (env : Locals) → (x ≡ y → ⊥) → value_in ((x, v) ∷ env) y ≡ value_in env y
miss x y v env h = ap (λ b. if b then v else value_in env y)
    (not_same (pointwise nat_eq y x) (bytes_eq-Decides y x) (λ e. h (sym e)))

-- ---- names

-- an operand doesn't speak of a name; `this` speaks of its own
abbrev Avoids : List ℕ → Plain → Type 0
Avoids x Missing = Unit {0}
Avoids x This = x ≡ codes "this" → ⊥
Avoids x (Local y) = x ≡ y → ⊥
Avoids x (Unsigned p) = Avoids x p
Avoids x (NotZero p) = Avoids x p

-- the names to come are distinct, and no parameter and no operand speaks of one
record IsFresh (names : List (List ℕ)) (params stack : List Plain) : Type 0 where
  pub distinct : AreDistinct names
  pub from_params : (x : List ℕ) → IsIn x names → Each (Avoids x) params
  pub from_stack : (x : List ℕ) → IsIn x names → Each (Avoids x) stack

fresh_item : (n : ℕ) {names : List (List ℕ)} {params stack : List Plain} → IsFresh names params stack
    → IsFresh names params (item_at Missing params n ∷ stack)
fresh_item n {names} {params} {stack} f = record {
  distinct = f.distinct;
  from_params = f.from_params;
  from_stack = λ x k. (each_item (Avoids x) Missing tt params n (f.from_params x k), f.from_stack x k);
}

-- the newest operand is changed, and speaks of no other name
fresh_top : (g : Plain → Plain) → ((x : List ℕ) (p : Plain) → Avoids x p → Avoids x (g p))
    → {names : List (List ℕ)} {params stack : List Plain} → IsFresh names params stack
    → IsFresh names params (g (top Missing stack) ∷ below stack)
fresh_top g h {names} {params} {stack} f = record {
  distinct = f.distinct;
  from_params = f.from_params;
  from_stack = λ x k. (
    h x (top Missing stack) (each_top (Avoids x) Missing tt stack (f.from_stack x k)),
    each_below
        (Avoids x) Missing tt stack (f.from_stack x k),
  );
}

fresh_without : (n : ℕ) {names : List (List ℕ)} {params stack : List Plain} → IsFresh names params stack
    → IsFresh names params (without n stack)
fresh_without n {names} {params} {stack} f = record {
  distinct = f.distinct;
  from_params = f.from_params;
  from_stack = λ x k. each_without (Avoids x) Missing tt n stack (f.from_stack x k);
}

-- the first name is taken
fresh_push : {y : List ℕ} {names : List (List ℕ)} {params stack : List Plain} → IsFresh (y ∷ names) params stack
    → IsFresh names params (Local y ∷ stack)
fresh_push {y} {names} {params} {stack} f = record {
  distinct = f.distinct.1;
  from_params = λ x k. f.from_params x (inr k);
  from_stack = λ x k. (λ e. f.distinct.0 (subst (λ (z : List ℕ). IsIn z names) e k), f.from_stack x (inr k));
}

-- and is known from then on
fresh_known : {y : List ℕ} {names : List (List ℕ)} {params stack : List Plain} → IsFresh (y ∷ names) params stack
    → IsFresh names (params ++ Local y ∷ []) (Local y ∷ stack)
fresh_known {y} {names} {params} {stack} f = record {
  distinct = f.distinct.1;
  from_params = λ x k. each_both (Avoids x) params (Local y ∷ []) (f.from_params x (inr k))
      (λ e. f.distinct.0 (subst (λ (z : List ℕ). IsIn z names) e k), tt);
  from_stack = (fresh_push f).from_stack;
}

-- the first names are taken, so many
fresh_left : (k : ℕ) (names : List (List ℕ)) (params stack : List Plain) → IsFresh names params stack → IsFresh (without k names) params stack
fresh_left zero names params stack f = f
fresh_left (suc k) [] params stack f = fresh_left k [] params stack f
fresh_left (suc k) (x ∷ names) params stack f = fresh_left k names params stack (record {
  distinct = f.distinct.1;
  from_params = λ y i. f.from_params y (inr i);
  from_stack = λ y i. f.from_stack y (inr i);
})

-- ---- operands: the values of a stack are the stack of the values

keep_one : (p : Plain) (x : List ℕ) (v : Value) (env : Locals) → Avoids x p
    → plain_value ((x, v) ∷ env) p ≡ plain_value env p
keep_one Missing x v env h = refl
keep_one This x v env h = miss x (codes "this") v env h
keep_one (Local y) x v env h = miss x y v env h
keep_one (Unsigned p) x v env h = ap unsigned (keep_one p x v env h)
keep_one (NotZero p) x v env h = ap is_not_zero (keep_one p x v env h)

-- a new local leaves the others as they are
keep : (stack : List Plain) (x : List ℕ) (v : Value) (env : Locals) → Each (Avoids x) stack
    → map (plain_value ((x, v) ∷ env)) stack ≡ map (plain_value env) stack
keep [] x v env h = refl
keep (p ∷ stack) x v env h =
    ap (λ w. w ∷ map (plain_value ((x, v) ∷ env)) stack) (keep_one p x v env h.0)
    ∙ ap (λ ws. plain_value env p ∷ ws) (keep stack x v env h.1)

pushed : (stack : List Plain) (x : List ℕ) (v : Value) (env : Locals) → Each (Avoids x) stack
    → map (plain_value ((x, v) ∷ env)) (Local x ∷ stack) ≡ v ∷ map (plain_value env) stack
pushed stack x v env h =
    ap (λ w. w ∷ map (plain_value ((x, v) ∷ env)) stack) (hit x v env) ∙ ap (λ ws. v ∷ ws) (keep stack x v env h)

-- a new local behind others
known_is : (params : List Plain) (x : List ℕ) (v : Value) (env : Locals) → Each (Avoids x) params
    → map (plain_value ((x, v) ∷ env)) (params ++ Local x ∷ []) ≡ map (plain_value env) params ++ v ∷ []
known_is params x v env h =
    map-append (plain_value ((x, v) ∷ env)) params (Local x ∷ [])
    ∙ ap (λ vs. vs ++ value_in ((x, v) ∷ env) x ∷ []) (keep params x v env h)
    ∙ ap (λ w. map (plain_value env) params ++ w ∷ []) (hit x v env)

module _ (env : Locals) where
  last_is : (p : Plain) (ps : List Plain) → plain_value env (last_of p ps) ≡ last_of (plain_value env p) (map (plain_value env) ps)
  last_is p [] = refl
  last_is p (q ∷ ps) = last_is q ps

  top_is : (stack : List Plain) → plain_value env (top Missing stack) ≡ top Null (map (plain_value env) stack)
  top_is [] = refl
  top_is (p ∷ stack) = refl

  below_is : (stack : List Plain) → map (plain_value env) (below stack) ≡ below (map (plain_value env) stack)
  below_is [] = refl
  below_is (p ∷ stack) = refl

  -- the newest operand is changed alike on both sides
  changed : (g : Plain → Plain) (h : Value → Value) → ((p : Plain) → plain_value env (g p) ≡ h (plain_value env p))
      → (stack : List Plain) → map (plain_value env) (g (top Missing stack) ∷ below stack)
      ≡ h (top Null (map (plain_value env) stack)) ∷ below (map (plain_value env) stack)
  changed g h e [] = ap (λ v. v ∷ []) (e Missing)
  changed g h e (p ∷ stack) = ap (λ v. v ∷ map (plain_value env) stack) (e p)

  without_is : (n : ℕ) (stack : List Plain) → map (plain_value env) (without n stack)
      ≡ without n (map (plain_value env) stack)
  without_is zero stack = refl
  without_is (suc n) [] = without_is n []
  without_is (suc n) (p ∷ stack) = without_is n stack

  item_is : (xs : List Plain) (n : ℕ) → plain_value env (item_at Missing xs n)
      ≡ item_at Null (map (plain_value env) xs) n
  item_is [] n = refl
  item_is (p ∷ xs) zero = refl
  item_is (p ∷ xs) (suc n) = item_is xs n

  operands_are : (n : ℕ) (stack taken : List Plain) → map (plain_value env) (operands Missing n stack taken)
      ≡ operands Null n (map (plain_value env) stack) (map (plain_value env) taken)
  operands_are zero stack taken = refl
  operands_are (suc n) [] taken = operands_are n [] (Missing ∷ taken)
  operands_are (suc n) (p ∷ stack) taken = operands_are n stack (p ∷ taken)

-- ---- the law

module _ (thing_of : List ℕ → Thing) where
  value_is : (p : Plain) (env : Locals) (trace : List Entry) (answers : List Answer)
      → value_of thing_of (term_of p) env trace answers ≡ Went (plain_value env p) trace answers
  value_is Missing env trace answers = refl
  value_is This env trace answers = refl
  value_is (Local x) env trace answers = refl
  value_is (Unsigned p) env trace answers = rw (value_is p env trace answers) refl
  value_is (NotZero p) env trace answers = rw (value_is p env trace answers) refl

  values_are : (ps : List Plain) (env : Locals) (trace : List Entry) (answers : List Answer)
      → values_of thing_of (terms ps) env trace answers ≡ Went (map (plain_value env) ps) trace answers
  values_are [] env trace answers = refl
  values_are (p ∷ ps) env trace answers = rw (value_is p env trace answers, values_are ps env trace answers)

  -- the call of a helper is one step
  helper_is : (key : List ℕ) (ps : List Plain) (env : Locals) → thing_of key ≡ Helper key
      → (trace : List Entry) (answers : List Answer) → value_of thing_of (helper_call key ps) env trace answers
      ≡ step (Calls (Helper key) (map (plain_value env) ps)) trace answers
  helper_is key ps env e trace answers = rw (values_are ps env trace answers, e)

  -- so is that of `BigInt.asUintN`
  unsigned_64_is : (p : Plain) (env : Locals) (trace : List Entry) (answers : List Answer)
      → value_of thing_of (unsigned_64_call p) env trace answers ≡ unsigned_64 (plain_value env p) trace answers
  unsigned_64_is p env trace answers = rw (value_is p env trace answers) refl

  -- the exports are read in order, and then a helper writes a value to memory
  exports_are : (names : List (List ℕ)) (env : Locals) (trace : List Entry) (answers : List Answer)
      → values_of thing_of (terms_of (map Export names)) env trace answers ≡ exports_of names trace answers
  exports_are [] env trace answers = refl
  exports_are (name ∷ names) env trace answers =
      goes_alike (step (Reads (OfExport name)) trace answers) _ _ (λ v trace answers.
      ap (λ r. goes_on r (λ vs. Went (v ∷ vs))) (exports_are names env trace answers))

  write_is : (helper : List ℕ) (exports : List (List ℕ)) (p : Plain) (env : Locals) → thing_of helper ≡ Helper helper
      → (trace : List Entry) (answers : List Answer) → value_of thing_of (write_call helper exports p) env trace answers
      ≡ writes helper exports (plain_value env p) trace answers
  write_is helper exports p env e trace answers =
      rw (value_is p env trace answers, exports_are exports env trace answers, e)
      (gathered (exports_of exports trace answers) (plain_value env p) (λ vs. step (Calls (Helper helper) vs)))

  -- the helpers that a value is written to memory by are known
  abbrev Knows : (optional : Bool) (helper : List ℕ) (exports : List (List ℕ)) → Type 0
  Knows optional helper exports = (key : List ℕ) → IsIn key (helpers_of (PassToMemory helper exports optional)) → thing_of key ≡ Helper key

  address_is : (optional : Bool) (helper : List ℕ) (exports : List (List ℕ)) (p : Plain) (env : Locals) → Knows optional helper exports
      → (trace : List Entry) (answers : List Answer) → value_of thing_of (address_term optional helper exports p) env trace answers
      ≡ address_of optional helper exports (plain_value env p) trace answers
  address_is false helper exports p env k trace answers = write_is helper exports p env (k helper (inl refl)) trace answers
  address_is true helper exports p env k trace answers =
      rw (helper_is (codes "isLikeNone") (p ∷ []) env (k (codes "isLikeNone") (inl refl)) trace answers)
      (goes_alike (step (Calls (Helper (codes "isLikeNone")) (plain_value env p ∷ [])) trace answers) _ _
      (λ absent. written (is_true absent)))
    where
      written : (b : Bool) (trace : List Entry) (answers : List Answer)
          → if_true b (Went (Number (pos 0)) trace answers) (value_of thing_of (write_call helper exports p) env trace answers)
          ≡ unless_absent b (writes helper exports (plain_value env p)) trace answers
      written true trace answers = refl
      written false trace answers = write_is helper exports p env (k helper (inr (inl refl))) trace answers

  length_known : (optional : Bool) (helper : List ℕ) (exports : List (List ℕ)) → Knows optional helper exports
      → thing_of (codes "WASM_VECTOR_LEN") ≡ Helper (codes "WASM_VECTOR_LEN")
  length_known false helper exports k = k (codes "WASM_VECTOR_LEN") (inr (inl refl))
  length_known true helper exports k = k (codes "WASM_VECTOR_LEN") (inr (inr (inl refl)))

  -- memory is freed by one step, in the locals of its own place
  frees_is : (free : List ℕ) (align : ℕ) (stack : List Plain) (env : Locals) (trace : List Entry) (answers : List Answer)
      → runs thing_of (AndLine (free_line free align (operands Missing 2 stack [])) NoLines) env trace answers
      ≡ goes_on (frees free align (map (plain_value env) stack) trace answers) (λ v. Went None)
  frees_is free align stack env trace answers =
      rw (
        value_is (top Missing (below stack)) env trace answers,
        value_is (top Missing stack) env trace answers,
        top_is env stack,
        top_is env (below stack),
        below_is env stack,
      )

  -- a view of memory is made by one step, and copied by another
  copies_is : (helper : List ℕ) (stack : List Plain) (env : Locals) → thing_of helper ≡ Helper helper
      → (trace : List Entry) (answers : List Answer) → value_of thing_of (copy_call helper (operands Missing 2 stack [])) env trace answers
      ≡ copies helper (map (plain_value env) stack) trace answers
  copies_is helper stack env e trace answers =
      ap (λ r. goes_on r (λ view. step (CallsOn view (codes "slice") [])))
      (helper_is helper (operands Missing 2 stack []) env e trace answers
      ∙ ap (λ vs. step (Calls (Helper helper) vs) trace answers) (operands_are env 2 stack []))

  -- an integer is read from room, or written there, by two steps
  loads_is : (view : List ℕ) (offset : ℕ) (is_wide : Bool) (p : Plain) (env : Locals) → thing_of view ≡ Helper view
      → (trace : List Entry) (answers : List Answer) → value_of thing_of (load_call view offset is_wide p) env trace answers
      ≡ loads view offset is_wide (plain_value env p) trace answers
  loads_is view offset is_wide p env e trace answers =
      rw (helper_is view [] env e trace answers)
      (goes_alike (step (Calls (Helper view) []) trace answers) _ _ (λ v trace answers. rw (value_is p env trace answers) refl))

  stores_is : (view : List ℕ) (offset : ℕ) (is_wide : Bool) (p q : Plain) (env : Locals) → thing_of view ≡ Helper view
      → (trace : List Entry) (answers : List Answer) → value_of thing_of (store_call view offset is_wide p q) env trace answers
      ≡ stores view offset is_wide (plain_value env p) (plain_value env q) trace answers
  stores_is view offset is_wide p q env e trace answers =
      rw (helper_is view [] env e trace answers)
      (goes_alike (step (Calls (Helper view) []) trace answers) _ _
      (λ v trace answers. rw (value_is p env trace answers, value_is q env trace answers) refl))

  -- so is a closure made: a function of the file is read, and then a helper makes it
  makes_is : (helper function : List ℕ) (stack : List Plain) (env : Locals) → thing_of helper ≡ Helper helper
      → thing_of function ≡ Helper function → (trace : List Entry) (answers : List Answer)
      → value_of thing_of (closure_call helper function (operands Missing 2 stack [])) env trace answers
      ≡ makes helper function (map (plain_value env) stack) trace answers
  makes_is helper function stack env e k trace answers =
      let values = map (plain_value env) stack in
      rw (
        value_is (top Missing (below stack)) env trace answers,
        value_is (top Missing stack) env trace answers,
        e,
        k,
        top_is env stack,
        top_is env (below stack),
        below_is env stack,
      )
      (gathered_last (step (Reads (Helper function)) trace answers) (top Null (below values)) (top Null values)
      (λ vs. step (Calls (Helper helper) vs)))

  -- so is a text found in a list, or taken from it
  index_is : (list : List ℕ) (p : Plain) (env : Locals) → thing_of list ≡ Helper list
      → (trace : List Entry) (answers : List Answer) → value_of thing_of (index_call list p) env trace answers
      ≡ index_of list (plain_value env p) trace answers
  index_is list p env e trace answers =
      rw e (goes_alike (step (Reads (Helper list)) trace answers) _ _ (λ texts trace answers. rw (value_is p env trace answers) refl))

  item_taken : (list : List ℕ) (p : Plain) (env : Locals) → thing_of list ≡ Helper list
      → (trace : List Entry) (answers : List Answer) → value_of thing_of (item_term list p) env trace answers
      ≡ item_of list (plain_value env p) trace answers
  item_taken list p env e trace answers =
      rw e (goes_alike (step (Reads (Helper list)) trace answers) _ _ (λ texts trace answers. rw (value_is p env trace answers) refl))

  gives_back_is : (env : Locals) → thing_of (codes "heap") ≡ Helper (codes "heap")
      → thing_of (codes "stack_pointer") ≡ Helper (codes "stack_pointer") → (trace : List Entry) (answers : List Answer)
      → runs thing_of (AndLine gives_back_line NoLines) env trace answers
      ≡ goes_on (gives_back trace answers) (λ v. Went None)
  gives_back_is env h k trace answers = rw (h, k)

  -- the run of a rest whose newest operand is a new local
  bound : (steps : List Step) (params stack : List Plain) (x : List ℕ) (v : Value) (env : Locals) (ss : List Value)
      → map (plain_value env) stack ≡ ss → Each (Avoids x) params → Each (Avoids x) stack
      → (trace : List Entry) (answers : List Answer) → means steps (map (plain_value ((x, v) ∷ env)) params)
      (map (plain_value ((x, v) ∷ env)) (Local x ∷ stack)) [] trace answers
      ≡ means steps (map (plain_value env) params) (v ∷ ss) [] trace answers
  bound steps params stack x v env ss e hp hs trace answers =
      ap (λ l. means steps l (map (plain_value ((x, v) ∷ env)) (Local x ∷ stack)) [] trace answers)
      (keep params x v env hp)
      ∙ ap (λ l. means steps (map (plain_value env) params) l [] trace answers)
      (pushed stack x v env hs ∙ ap (λ l. v ∷ l) e)

  -- a cleanup and a rest mean the `try` and `finally` of both
  cleaned_is : (steps : List Step) (last : Line) (rest : Lines) (cleanup : Act Value) (env : Locals)
      (args ss : List Value) → ((trace : List Entry) (answers : List Answer)
      → runs thing_of (AndLine last NoLines) env trace answers ≡ goes_on (cleanup trace answers) (λ v. Went None))
      → (trace : List Entry) (answers : List Answer) → runs thing_of rest env trace answers
      ≡ means steps args ss [] trace answers → runs thing_of (cleaned_by last rest) env trace answers
      ≡ means steps args ss (cleanup ∷ []) trace answers
  cleaned_is steps last rest cleanup env args ss h trace answers e =
      nothing_after (and_always (runs thing_of rest env trace answers) (runs thing_of (AndLine last NoLines) env))
      ∙ finally (runs thing_of rest env trace answers) (runs thing_of (AndLine last NoLines) env) cleanup h
      ∙ ap (λ r. and_then_cleans r cleanup) e
      ∙ sym (means_last steps args ss [] cleanup trace answers)

  thrown : (ran : Ran Value) (rest : Act (Option Value)) (next : List Value → List (Act Value) → Act (Option Value))
      → unless_left (goes_on ran Threw) rest ≡ after_act (goes_on ran Threw) [] next
  thrown (Went v trace answers) rest next = refl
  thrown (Threw v trace answers) rest next = refl
  thrown (Ended trace) rest next = refl

  -- a flag that is true throws what the helper gives
  unwrapping : (b : Bool) (helper : List ℕ) (p : Plain) (env : Locals) (y : Value) → plain_value env p ≡ y
      → thing_of helper ≡ Helper helper
      → (rest : Act (Option Value)) (ss : List Value) (next : List Value → List (Act Value) → Act (Option Value))
      → ((trace : List Entry) (answers : List Answer) → rest trace answers ≡ next ss [] trace answers)
      → (trace : List Entry) (answers : List Answer) → unless_left
      (if_true b (runs thing_of (AndLine (Fail (helper_call helper (p ∷ []))) NoLines) env trace answers)
      (Went None trace answers)) rest ≡ after_act (throws_if b helper y ss trace answers) [] next
  unwrapping false helper p env y e k rest ss next h trace answers = h trace answers
  unwrapping true helper p env y e k rest ss next h trace answers =
      rw (helper_is helper (p ∷ []) env k trace answers, e)
      (thrown (step (Calls (Helper helper) (y ∷ [])) trace answers) rest next)

  -- what a call of an import and the rest mean, where the rest means what it is to
  imported : (adapter n : ℕ) (has_result : Bool) (e : Expression) (locals : List (List ℕ)) (steps : List Step) (params stack : List Plain)
      (names : List (List ℕ)) (env : Locals) (count : ℕ) → IsFresh names params stack
      → length (result_of has_result ++ wanted_from count steps) ≤ length names
      → ((stack : List Plain) (names : List (List ℕ)) (env : Locals) → IsFresh names params stack → length (wanted_from count steps) ≤ length names
      → (trace : List Entry) (answers : List Answer) → runs thing_of (nested (pieces_of steps params stack names) NoLines) env trace answers
      ≡ means steps (map (plain_value env) params) (map (plain_value env) stack) [] trace answers)
      → (trace : List Entry) (answers : List Answer)
      → runs thing_of (nested ((import_row adapter n has_result e locals stack names).pieces
      ++ pieces_of steps params (import_row adapter n has_result e locals stack names).stack
      (import_row adapter n has_result e locals stack names).names) NoLines) env trace answers
      ≡ means (CallImport adapter n has_result e ∷ steps) (map (plain_value env) params) (map (plain_value env) stack) [] trace answers
  imported adapter n true e locals steps params stack [] env count f le next trace answers = absurd (omega (arith, le))
  imported adapter n true e locals steps params stack (x ∷ names) env count f le next trace answers =
      rw (values_are (operands Missing n stack []) env trace answers, operands_are env n stack [])
      (one_step (step (CallsAdapter adapter (operands Null n (map (plain_value env) stack) [])) trace answers) _ _ _
      (λ v trace answers.
      next (Local x ∷ without n stack) names ((x, v) ∷ env) (fresh_push (fresh_without n f)) (omega (arith, le)) trace answers
      ∙ bound steps params (without n stack) x v env _ (without_is env n stack) (f.from_params x (inl refl))
      ((fresh_without n f).from_stack x (inl refl)) trace answers))
  imported adapter n false e locals steps params stack names env count f le next trace answers =
      rw (values_are (operands Missing n stack []) env trace answers, operands_are env n stack [])
      (one_step (step (CallsAdapter adapter (operands Null n (map (plain_value env) stack) [])) trace answers) _ _ _
      (λ v trace answers.
      next (without n stack) names env (fresh_without n f) le trace answers
      ∙ ap (λ s. means steps (map (plain_value env) params) s [] trace answers) (without_is env n stack)))

  same : (steps : List Step) (params stack : List Plain) (names : List (List ℕ)) (env : Locals) (count : ℕ)
      → KnowsHelpers steps thing_of → IsFresh names params stack → length (wanted_from count steps) ≤ length names
      → (trace : List Entry) (answers : List Answer) → runs thing_of
      (nested (pieces_of steps params stack names) NoLines) env trace answers
      ≡ means steps (map (plain_value env) params) (map (plain_value env) stack) [] trace answers
  same [] params [] names env count k f le trace answers = refl
  same [] params (p ∷ stack) names env count k f le trace answers = rw (value_is p env trace answers)
  same (Parameter n ∷ steps) params stack names env count k f le trace answers =
      same steps params (item_at Missing params n ∷ stack) names env count k (fresh_item n f) le trace answers
      ∙ ap (λ v. means steps (map (plain_value env) params) (v ∷ map (plain_value env) stack) [] trace answers)
      (item_is env params n)
  same (Unchanged ∷ steps) params stack names env count k f le trace answers =
      same steps params (top Missing stack ∷ below stack) names env count k
      (fresh_top (λ p. p) (λ x p a. a) f) le trace answers
      ∙ ap (λ s. means steps (map (plain_value env) params) s [] trace answers)
      (changed env (λ p. p) (λ v. v) (λ p. refl) stack)
  same (CallExport name n true ∷ steps) params stack [] env count k f le trace answers = absurd (omega (arith, le))
  same (CallExport name n true ∷ steps) params stack (x ∷ names) env count k f le trace answers =
      rw (values_are (operands Missing n stack []) env trace answers, operands_are env n stack [])
      (one_step (step (Calls (OfExport name) (operands Null n (map (plain_value env) stack) [])) trace answers) _ _ _
      (λ v trace answers.
      same steps params (Local x ∷ without n stack) names ((x, v) ∷ env) count k (fresh_push (fresh_without n f))
      (omega (arith, le)) trace answers
      ∙ bound steps params (without n stack) x v env _ (without_is env n stack) (f.from_params x (inl refl))
      ((fresh_without n f).from_stack x (inl refl)) trace answers))
  same (CallExport name n false ∷ steps) params stack names env count k f le trace answers =
      rw (values_are (operands Missing n stack []) env trace answers, operands_are env n stack [])
      (one_step (step (Calls (OfExport name) (operands Null n (map (plain_value env) stack) [])) trace answers) _ _ _
      (λ v trace answers.
      same steps params (without n stack) names env count k (fresh_without n f) le trace answers
      ∙ ap (λ s. means steps (map (plain_value env) params) s [] trace answers) (without_is env n stack)))
  same (CallImport adapter n has_result e ∷ steps) params stack names env count k f le trace answers =
      let taken = length e.locals in
      let wanted = result_of has_result ++ wanted_from count steps in
      imported adapter n has_result e (next_names taken names) steps params stack (without taken names) env count
      (fresh_left taken names params stack f)
      (left_enough e.locals wanted names (subst (λ (ws : List (List ℕ)). length ws ≤ length names)
      (append_assoc e.locals (result_of has_result) (wanted_from count steps)) le))
      (λ stack names env f le trace answers. same steps params stack names env count k f le trace answers) trace answers
  same (ToUnsigned ∷ steps) params stack names env count k f le trace answers =
      same steps params (Unsigned (top Missing stack) ∷ below stack) names env count k
      (fresh_top Unsigned (λ x p a. a) f) le trace answers
      ∙ ap (λ s. means steps (map (plain_value env) params) s [] trace answers)
      (changed env Unsigned unsigned (λ p. refl) stack)
  same (IsNotZero ∷ steps) params stack names env count k f le trace answers =
      same steps params (NotZero (top Missing stack) ∷ below stack) names env count k
      (fresh_top NotZero (λ x p a. a) f) le trace answers
      ∙ ap (λ s. means steps (map (plain_value env) params) s [] trace answers)
      (changed env NotZero is_not_zero (λ p. refl) stack)
  same (ToUnsigned64 ∷ steps) params stack [] env count k f le trace answers = absurd (omega (arith, le))
  same (ToUnsigned64 ∷ steps) params stack (x ∷ names) env count k f le trace answers =
      rw (unsigned_64_is (top Missing stack) env trace answers, top_is env stack)
      (one_step (unsigned_64 (top Null (map (plain_value env) stack)) trace answers) _ _ _ (λ v trace answers.
      same steps params (Local x ∷ below stack) names ((x, v) ∷ env) (counted ToUnsigned64 count)
      k (fresh_push (fresh_without 1 f)) (omega (arith, le)) trace answers
      ∙ bound steps params (below stack) x v env _ (below_is env stack) (f.from_params x (inl refl))
      ((fresh_without 1 f).from_stack x (inl refl)) trace answers))
  same (CallHelper helper n ∷ steps) params stack [] env count k f le trace answers = absurd (omega (arith, le))
  same (CallHelper helper n ∷ steps) params stack (x ∷ names) env count k f le trace answers =
      rw (helper_is helper (operands Missing n stack []) env (k helper (inl refl)) trace answers, operands_are env n stack [])
      (one_step (step (Calls (Helper helper) (operands Null n (map (plain_value env) stack) [])) trace answers) _ _ _
      (λ v trace answers.
      same steps params (Local x ∷ without n stack) names ((x, v) ∷ env) (counted (CallHelper helper n) count)
      (λ key at. k key (inr at)) (fresh_push (fresh_without n f)) (omega (arith, le)) trace answers
      ∙ bound steps params (without n stack) x v env _ (without_is env n stack) (f.from_params x (inl refl))
      ((fresh_without n f).from_stack x (inl refl)) trace answers))
  same (IndexFromBorrow ∷ steps) params stack [] env count k f le trace answers = absurd (omega (arith, le))
  same (IndexFromBorrow ∷ steps) params stack (x ∷ names) env count k f le trace answers =
      rw (
        helper_is (codes "addBorrowedObject") (top Missing stack ∷ []) env
            (k (codes "addBorrowedObject") (inl refl)) trace answers,
        top_is env stack,
      )
      (one_step (step (Calls (Helper (codes "addBorrowedObject"))
      (top Null (map (plain_value env) stack) ∷ [])) trace answers) _ _ _ (λ v trace answers.
      cleaned_is steps gives_back_line (nested (pieces_of steps params
      (Local x ∷ below stack) names) NoLines) gives_back ((x, v) ∷ env) _ _
      (gives_back_is ((x, v) ∷ env) (k (codes "heap") (inr (inl refl)))
      (k (codes "stack_pointer") (inr (inr (inl refl))))) trace answers
      (same steps params (Local x ∷ below stack) names ((x, v) ∷ env) (counted IndexFromBorrow count)
      (λ key at. k key (inr (inr (inr at)))) (fresh_push (fresh_without 1 f)) (omega (arith, le)) trace answers
      ∙ bound steps params (below stack) x v env _ (below_is env stack) (f.from_params x (inl refl))
      ((fresh_without 1 f).from_stack x (inl refl)) trace answers)))
  same (UnwrapResult helper ∷ steps) params stack names env count k f le trace answers =
      rw (value_is (top Missing stack) env trace answers, top_is env stack)
      (unwrapping (is_true (top Null (map (plain_value env) stack))) helper (top Missing (below stack)) env _
      (top_is env (below stack) ∙ ap (top Null) (below_is env stack)) (k helper (inl refl)) _ _
      (means steps (map (plain_value env) params))
      (λ trace answers. same steps params (below (below stack)) names env count (λ key at. k key (inr at))
      (fresh_without 2 f) le trace answers
      ∙ ap (λ s. means steps (map (plain_value env) params) s [] trace answers) (without_is env 2 stack)) trace answers)
  same (PassToMemory helper exports optional ∷ steps) params stack [] env count k f le trace answers = absurd (omega (arith, le))
  same (PassToMemory helper exports optional ∷ steps) params stack (x ∷ []) env count k f le trace answers = absurd (omega (arith, le))
  same (PassToMemory helper exports optional ∷ steps) params stack (x ∷ y ∷ names) env count k f le trace answers =
      let here = helpers_of (PassToMemory helper exports optional) in
      let others = flat_map helpers_of steps in
      let knows : Knows optional helper exports = λ key at. k key (in_left key here others at) in
      let under = fresh_without 1 f in
      let one = fresh_push under in
      rw (address_is optional helper exports (top Missing stack) env knows trace answers, top_is env stack)
      (one_step (address_of optional helper exports (top Null (map (plain_value env) stack)) trace answers) _ _ _ (λ v trace answers.
      rw (length_known optional helper exports knows)
      (one_step (step (Reads (Helper (codes "WASM_VECTOR_LEN"))) trace answers) _ _ _ (λ u trace answers.
      same steps params (Local y ∷ Local x ∷ below stack) names ((y, u) ∷ (x, v) ∷ env)
      (counted (PassToMemory helper exports optional) count) (λ key at. k key (in_right key here others at)) (fresh_push one)
      (omega (arith, le)) trace answers
      ∙ bound steps params (Local x ∷ below stack) y u ((x, v) ∷ env) _
      (pushed (below stack) x v env (under.from_stack x (inl refl)) ∙ ap (λ vs. v ∷ vs) (below_is env stack))
      (one.from_params y (inl refl)) (one.from_stack y (inl refl)) trace answers
      ∙ ap (λ l. means steps l (u ∷ v ∷ below (map (plain_value env) stack)) [] trace answers)
      (keep params x v env (f.from_params x (inl refl)))))))
  same (DeferFree free align ∷ steps) params stack names env count k f le trace answers =
      cleaned_is steps (free_line free align (operands Missing 2 stack [])) (nested (pieces_of steps params stack names) NoLines)
      (frees free align (map (plain_value env) stack)) env _ _ (frees_is free align stack env) trace answers
      (same steps params stack names env count k f le trace answers)
  same (CopyOut helper ∷ steps) params stack [] env count k f le trace answers = absurd (omega (arith, le))
  same (CopyOut helper ∷ steps) params stack (x ∷ names) env count k f le trace answers =
      rw (copies_is helper stack env (k helper (inl refl)) trace answers)
      (one_step (copies helper (map (plain_value env) stack) trace answers) _ _ _ (λ v trace answers.
      same steps params (Local x ∷ without 2 stack) names ((x, v) ∷ env) (counted (CopyOut helper) count)
      (λ key at. k key (inr at)) (fresh_push (fresh_without 2 f)) (omega (arith, le)) trace answers
      ∙ bound steps params (without 2 stack) x v env _ (without_is env 2 stack) (f.from_params x (inl refl))
      ((fresh_without 2 f).from_stack x (inl refl)) trace answers))
  same (ReturnPointer size ∷ steps) params stack [] env count k f le trace answers = absurd (omega (arith, le))
  same (ReturnPointer size ∷ steps) params stack (x ∷ names) env count k f le trace answers =
      one_step (takes_room size trace answers) _ _ _ (λ v trace answers.
      cleaned_is steps (Run (mover_call (pos size))) (nested (pieces_of steps (params ++ Local x ∷ []) (Local x ∷ stack) names) NoLines)
      (gives_room_back size) ((x, v) ∷ env) (map (plain_value env) params ++ v ∷ []) (v ∷ map (plain_value env) stack)
      (λ trace answers. refl) trace answers
      (same steps (params ++ Local x ∷ []) (Local x ∷ stack) names ((x, v) ∷ env) count k (fresh_known f) (omega (arith, le)) trace answers
      ∙ ap (λ l. means steps l (map (plain_value ((x, v) ∷ env)) (Local x ∷ stack)) [] trace answers)
      (known_is params x v env (f.from_params x (inl refl)))
      ∙ ap (λ l. means steps (map (plain_value env) params ++ v ∷ []) l [] trace answers)
      (pushed stack x v env (f.from_stack x (inl refl)))))
  same (LoadReturn view offset is_wide ∷ steps) params stack [] env count k f le trace answers = absurd (omega (arith, le))
  same (LoadReturn view offset is_wide ∷ steps) params stack (x ∷ names) env count k f le trace answers =
      rw (loads_is view offset is_wide (last_of Missing params) env (k view (inl refl)) trace answers, last_is env Missing params)
      (one_step (loads view offset is_wide (last_of Null (map (plain_value env) params)) trace answers) _ _ _ (λ v trace answers.
      same steps params (Local x ∷ stack) names ((x, v) ∷ env) (counted (LoadReturn view offset is_wide) count)
      (λ key at. k key (inr at)) (fresh_push f) (omega (arith, le)) trace answers
      ∙ bound steps params stack x v env _ refl (f.from_params x (inl refl)) (f.from_stack x (inl refl)) trace answers))
  same (StoreReturn view offset is_wide ∷ steps) params stack names env count k f le trace answers =
      rw (
        stores_is view offset is_wide (item_at Missing params 0) (top Missing stack) env (k view (inl refl)) trace answers,
        item_is env params 0,
        top_is env stack,
      )
      (one_step (stores view offset is_wide (item_at Null (map (plain_value env) params) 0) (top Null (map (plain_value env) stack)) trace answers)
      _ _ _ (λ v trace answers.
      same steps params (below stack) names env count (λ key at. k key (inr at)) (fresh_without 1 f) le trace answers
      ∙ ap (λ s. means steps (map (plain_value env) params) s [] trace answers) (below_is env stack)))
  same (MakeClosure helper function ∷ steps) params stack [] env count k f le trace answers = absurd (omega (arith, le))
  same (MakeClosure helper function ∷ steps) params stack (x ∷ names) env count k f le trace answers =
      rw (makes_is helper function stack env (k helper (inl refl)) (k function (inr (inl refl))) trace answers)
      (one_step (makes helper function (map (plain_value env) stack) trace answers) _ _ _ (λ v trace answers.
      same steps params (Local x ∷ without 2 stack) names ((x, v) ∷ env) (counted (MakeClosure helper function) count)
      (λ key at. k key (inr (inr at))) (fresh_push (fresh_without 2 f)) (omega (arith, le)) trace answers
      ∙ bound steps params (without 2 stack) x v env _ (without_is env 2 stack) (f.from_params x (inl refl))
      ((fresh_without 2 f).from_stack x (inl refl)) trace answers))
  same (IndexOf list ∷ steps) params stack [] env count k f le trace answers = absurd (omega (arith, le))
  same (IndexOf list ∷ steps) params stack (x ∷ names) env count k f le trace answers =
      rw (index_is list (top Missing stack) env (k list (inl refl)) trace answers, top_is env stack)
      (one_step (index_of list (top Null (map (plain_value env) stack)) trace answers) _ _ _ (λ v trace answers.
      same steps params (Local x ∷ below stack) names ((x, v) ∷ env) (counted (IndexOf list) count)
      (λ key at. k key (inr at)) (fresh_push (fresh_without 1 f)) (omega (arith, le)) trace answers
      ∙ bound steps params (below stack) x v env _ (below_is env stack) (f.from_params x (inl refl))
      ((fresh_without 1 f).from_stack x (inl refl)) trace answers))
  same (ItemAt list ∷ steps) params stack [] env count k f le trace answers = absurd (omega (arith, le))
  same (ItemAt list ∷ steps) params stack (x ∷ names) env count k f le trace answers =
      rw (item_taken list (top Missing stack) env (k list (inl refl)) trace answers, top_is env stack)
      (one_step (item_of list (top Null (map (plain_value env) stack)) trace answers) _ _ _ (λ v trace answers.
      same steps params (Local x ∷ below stack) names ((x, v) ∷ env) (counted (ItemAt list) count)
      (λ key at. k key (inr at)) (fresh_push (fresh_without 1 f)) (omega (arith, le)) trace answers
      ∙ bound steps params (below stack) x v env _ (below_is env stack) (f.from_params x (inl refl))
      ((fresh_without 1 f).from_stack x (inl refl)) trace answers))

-- ---- the whole function

avoids_locals : (x : List ℕ) (names : List (List ℕ)) → IsAway x names → Each (Avoids x) (map Local names)
avoids_locals x [] h = tt
avoids_locals x (y ∷ names) h = (λ e. h (inl e), avoids_locals x names (λ k. h (inr k)))

-- the parameters have the arguments that they see
start_is : (params : List (List ℕ)) (args : List Value) → AreDistinct params
    → map (plain_value (locals_of params args)) (map Local params) ≡ seen (length params) args
start_is [] args d = refl
start_is (x ∷ params) [] d =
    pushed (map Local params) x Undefined (locals_of params []) (avoids_locals x params d.0)
    ∙ ap (λ vs. Undefined ∷ vs) (start_is params [] d.1)
start_is (x ∷ params) (v ∷ args) d =
    pushed (map Local params) x v (locals_of params args) (avoids_locals x params d.0)
    ∙ ap (λ vs. v ∷ vs) (start_is params args d.1)

-- of a form too: the value of `this` is that of the name that no local has
form_start : (form : Form) (params : List (List ℕ)) (args : List Value) → AreDistinct (value_names form params)
    → map (plain_value (locals_of (value_names form params) args)) (parameters_of form params) ≡ seen (length (value_names form params)) args
form_start form params args = by form.takes_this
  where
    by : (takes_this : Bool) → AreDistinct (first_if takes_this (codes "this") params)
        → map (plain_value (locals_of (first_if takes_this (codes "this") params) args)) (first_if takes_this This (map Local params))
        ≡ seen (length (first_if takes_this (codes "this") params)) args
    by true d = start_is (codes "this" ∷ params) args d
    by false d = start_is params args d

avoids_parameters : (form : Form) (x : List ℕ) (params : List (List ℕ)) → IsAway x (value_names form params)
    → Each (Avoids x) (parameters_of form params)
avoids_parameters form x params = by form.takes_this
  where
    by : (takes_this : Bool) → IsAway x (first_if takes_this (codes "this") params) → Each (Avoids x) (first_if takes_this This (map Local params))
    by true h = (λ e. h (inl e), avoids_locals x params (λ k. h (inr k)))
    by false h = avoids_locals x params h

pub whole : (form : Form) (steps : List Step) (params temps : List (List ℕ)) → AreDistinct (value_names form params) → AreDistinct temps
    → ((x : List ℕ) → IsIn x temps → IsAway x (value_names form params)) → length (temporaries steps) ≤ length temps
    → (thing_of : List ℕ → Thing) → KnowsHelpers steps thing_of → (args : List Value) (answers : List Answer)
    → tree_meaning thing_of (tree_of steps (parameters_of form params) temps) (locals_of (value_names form params) args) answers
    ≡ adapter_meaning steps (length (value_names form params)) args answers
whole form steps params temps dp dt apart le thing_of knows args answers =
    same thing_of steps (parameters_of form params) [] temps (locals_of (value_names form params) args) 0 knows
    (record {
      distinct = dt;
      from_params = λ x k. avoids_parameters form x params (apart x k);
      from_stack =
          λ x k. tt;
    }) le [] answers
    ∙ ap (λ vs. means steps vs [] [] [] answers) (form_start form params args dp)
