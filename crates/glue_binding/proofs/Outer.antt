-- The names from outside don't depend on the locals.
use Rattle.std.proofs.Common.{◌≡◌, ℕ, zero, suc, List, [], ◌∷◌, ◌++◌, length, map, refl, ap, sym, ◌∙◌, Bool, true, false}
use Rattle.std.proofs.lemmas.List.{append-nil}
use Rattle.std.proofs.lemmas.List.Elements.{filter_map-append}
use Rattle.std.specs.Prelude.{Option, Some, None, codes}
use Rattle.std.specs.List.{filter_map}
use Rattle.glue_words.specs.declared.word.Word.{Word}
use Rattle.glue_words.specs.declared.word.Word.TheVariants as w
use Rattle.glue_words.specs.Names.{used_name, hosted_name, used_in, hosted_in}
use Rattle.glue_tree.specs.Term.{Export, Lines, NoLines}
use Rattle.glue_tree.specs.Plainly.{terms_of}
use Rattle.glue_tree.specs.Spelling.{function_words}
use Rattle.glue_words.specs.Words.{space}
use Rattle.glue_tree.specs.Leaves.{leaves, leaves_of, line_leaves, lines_leaves, function_leaves}
use Rattle.glue_tree.proofs.Names.{IsKind, Has, function_names}
use Rattle.glue_tree.proofs.Functions.{used_kind, hosted_kind}
use Rattle.glue_imports.specs.declared.part.Part.{Part}
use Rattle.glue_imports.specs.declared.part.Expression.{Expression}
use Rattle.glue_operands.proofs.Parts.{parts_found}
use Rattle.glue_steps.specs.Stack.{top, below, item_at, last_of, operands, without}
use Rattle.glue_steps.specs.AdapterMeaning.{reading_method, writing_method, known}
use Rattle.glue_steps.specs.declared.step.Step.{Step}
use Rattle.glue_steps.specs.declared.step.Step.TheVariants.{Parameter, Unchanged, CallExport, CallImport, ToUnsigned, IsNotZero, ToUnsigned64, CallHelper, IndexFromBorrow, UnwrapResult, PassToMemory, DeferFree, CopyOut, ReturnPointer, LoadReturn, StoreReturn, MakeClosure, IndexOf, ItemAt}
use Rattle.glue_operands.specs.Spelling.{Plain, Missing, This, Local, Unsigned, NotZero, term_of, terms, parts_words, import_line_words}
use Rattle.glue_binding.specs.Spelling.{first, later, next_names, write_call, address_term, written_length, copy_call, view_method, load_call, store_call, closure_call, Piece, Ahead, Cleanup, ending, import_row, row, pieces_of, nested, tree_of}
use Rattle.glue_binding.specs.Outer.{outer_in, seed_words}

-- operands have no names of a kind that locals have none of
pub plain_none : (kind : Word → Option (List ℕ)) → ((name : List ℕ) → kind (w.Local name) ≡ None) → (p : Plain)
    → filter_map kind (leaves (term_of p)) ≡ []
plain_none kind h Missing = refl
plain_none kind h This = refl
plain_none kind h (Local name) = rw (h name) refl
plain_none kind h (Unsigned p) = ap (filter_map kind) (append-nil (leaves (term_of p))) ∙ plain_none kind h p
plain_none kind h (NotZero p) = ap (filter_map kind) (append-nil (leaves (term_of p))) ∙ plain_none kind h p

pub terms_none : (kind : Word → Option (List ℕ)) → ((name : List ℕ) → kind (w.Local name) ≡ None) → (ps : List Plain)
    → filter_map kind (leaves_of (terms ps)) ≡ []
terms_none kind h [] = refl
terms_none kind h (p ∷ ps) =
    filter_map-append kind (leaves (term_of p)) (leaves_of (terms ps))
    ∙ ap (λ (ns : List (List ℕ)). ns ++ filter_map kind (leaves_of (terms ps))) (plain_none kind h p)
    ∙ terms_none kind h ps

-- a kind of names from outside: none of a local
pub record IsOuter (kind : Word → Option (List ℕ)) : Type 0 where
  pub is : IsKind kind
  pub bound : (name : List ℕ) → kind (w.LocalBind name) ≡ None
  pub local : (name : List ℕ) → kind (w.Local name) ≡ None

-- as many operands
abbrev AreAsMany : List Plain → List Plain → Type 0
AreAsMany [] [] = Unit {0}
AreAsMany (p ∷ ps) (q ∷ qs) = AreAsMany ps qs
AreAsMany ps qs = ⊥

below_many : (t t' : List Plain) → AreAsMany t t' → AreAsMany (below t) (below t')
below_many [] [] h = tt
below_many (p ∷ t) (q ∷ t') h = h
below_many [] (q ∷ t') h = absurd h
below_many (p ∷ t) [] h = absurd h

without_many : (n : ℕ) (t t' : List Plain) → AreAsMany t t' → AreAsMany (without n t) (without n t')
without_many zero t t' h = h
without_many (suc n) t t' h = without_many n (below t) (below t') (below_many t t' h)

called_many : (adapter i : ℕ) (has_result : Bool) (e : Expression) (locals locals' : List (List ℕ)) (t t' : List Plain) (n n' : List (List ℕ))
    → AreAsMany t t' → AreAsMany (import_row adapter i has_result e locals t n).stack (import_row adapter i has_result e locals' t' n').stack
called_many adapter i true e locals locals' t t' n n' h = without_many i t t' h
called_many adapter i false e locals locals' t t' n n' h = without_many i t t' h

row_many : (s : Step) (p t p' t' : List Plain) (n n' : List (List ℕ)) → AreAsMany t t'
    → AreAsMany (row s p t n).stack (row s p' t' n').stack
row_many (Parameter i) p t p' t' n n' h = h
row_many Unchanged p t p' t' n n' h = below_many t t' h
row_many (CallExport name i true) p t p' t' n n' h = without_many i t t' h
row_many (CallExport name i false) p t p' t' n n' h = without_many i t t' h
row_many (CallImport adapter i has_result e) p t p' t' n n' h =
    let k = length e.locals in
    called_many adapter i has_result e (next_names k n) (next_names k n') t t' (without k n) (without k n') h
row_many ToUnsigned p t p' t' n n' h = below_many t t' h
row_many IsNotZero p t p' t' n n' h = below_many t t' h
row_many ToUnsigned64 p t p' t' n n' h = below_many t t' h
row_many (CallHelper helper i) p t p' t' n n' h = without_many i t t' h
row_many IndexFromBorrow p t p' t' n n' h = below_many t t' h
row_many (UnwrapResult helper) p t p' t' n n' h = without_many 2 t t' h
row_many (PassToMemory helper exports optional) p t p' t' n n' h = below_many t t' h
row_many (DeferFree free align) p t p' t' n n' h = h
row_many (CopyOut helper) p t p' t' n n' h = without_many 2 t t' h
row_many (ReturnPointer size) p t p' t' n n' h = h
row_many (LoadReturn view offset is_wide) p t p' t' n n' h = h
row_many (StoreReturn view offset is_wide) p t p' t' n n' h = below_many t t' h
row_many (MakeClosure helper function) p t p' t' n n' h = without_many 2 t t' h
row_many (IndexOf list) p t p' t' n n' h = below_many t t' h
row_many (ItemAt list) p t p' t' n n' h = below_many t t' h

module _ (kind : Word → Option (List ℕ)) (outer : IsOuter kind) where
  abbrev found : List Word → List (List ℕ)
  found words = filter_map kind words

  -- two lists of words have the same names from outside
  record Alike (words others : List Word) : Type 0 where
    same : found words ≡ found others

  equal : (words : List Word) → Alike words words
  equal words = record { same = refl }

  beside : {xs ys xs' ys' : List Word} → Alike xs xs' → Alike ys ys' → Alike (xs ++ ys) (xs' ++ ys')
  beside {xs} {ys} {xs'} {ys'} h k = record {
    same = filter_map-append kind xs ys ∙ ap (λ (ns : List (List ℕ)). ns ++ found ys) h.same
        ∙ ap (λ (ns : List (List ℕ)). found xs' ++ ns) k.same ∙ sym (filter_map-append kind xs' ys');
  }

  kept : {xs ys : List Word} (word : Word) → Alike xs ys → Alike (word ∷ xs) (word ∷ ys)
  kept word h = beside (equal (word ∷ [])) h

  bind : {xs ys : List Word} (a b : List ℕ) → Alike xs ys → Alike (w.LocalBind a ∷ xs) (w.LocalBind b ∷ ys)
  bind a b h = record { same = rw (outer.bound a, outer.bound b) h.same }

  operand : (p q : Plain) → Alike (leaves (term_of p)) (leaves (term_of q))
  operand p q = record { same = plain_none kind outer.local p ∙ sym (plain_none kind outer.local q) }

  passed : (ps qs : List Plain) → Alike (leaves_of (terms ps)) (leaves_of (terms qs))
  passed ps qs = record { same = terms_none kind outer.local ps ∙ sym (terms_none kind outer.local qs) }

  parts_same : (parts : List Part) (ls ms : List (List ℕ)) (ps qs : List Plain) → Alike (parts_words parts ls ps) (parts_words parts ms qs)
  parts_same parts ls ms ps qs = record {
    same = parts_found kind outer.is outer.local outer.bound ls ps parts ∙ sym (parts_found kind outer.is outer.local outer.bound ms qs parts);
  }

  value_same : (parts : List Part) (ls ms : List (List ℕ)) (ps qs : List Plain)
      → Alike (parts_words parts ls ps ++ w.Punct 8 ∷ []) (parts_words parts ms qs ++ w.Punct 8 ∷ [])
  value_same parts ls ms ps qs = beside (parts_same parts ls ms ps qs) (equal (w.Punct 8 ∷ []))

  run_same : (e : Expression) (ls ms : List (List ℕ)) (ps qs : List Plain) → Alike (import_line_words None e ls ps) (import_line_words None e ms qs)
  run_same e ls ms ps qs = beside (parts_same e.prelude ls ms ps qs) (value_same e.value ls ms ps qs)

  bound_same : (e : Expression) (a b : List ℕ) (ls ms : List (List ℕ)) (ps qs : List Plain)
      → Alike (import_line_words (Some a) e ls ps) (import_line_words (Some b) e ms qs)
  bound_same e a b ls ms ps qs = beside (parts_same e.prelude ls ms ps qs)
      (kept (w.Key 8) (kept space (bind a b (kept space (kept (w.Punct 14) (kept space (value_same e.value ls ms ps qs)))))))

  -- `helper(args)`
  helper_same : (key : List ℕ) (ps qs : List Plain) → Alike (w.Refer key false ∷ leaves_of (terms ps)) (w.Refer key false ∷ leaves_of (terms qs))
  helper_same key ps qs = kept (w.Refer key false) (passed ps qs)

  -- `helper(p, wasm.name, ..)`, and the address of what it writes
  write_same : (helper : List ℕ) (exports : List (List ℕ)) (p q : Plain) → Alike (leaves (write_call helper exports p)) (leaves (write_call helper exports q))
  write_same helper exports p q = kept (w.Refer helper false) (beside (operand p q) (equal (leaves_of (terms_of (map Export exports)))))

  address_same : (optional : Bool) (helper : List ℕ) (exports : List (List ℕ)) (p q : Plain)
      → Alike (leaves (address_term optional helper exports p)) (leaves (address_term optional helper exports q))
  address_same false helper exports p q = write_same helper exports p q
  address_same true helper exports p q = beside (helper_same (codes "isLikeNone") (p ∷ []) (q ∷ [])) (write_same helper exports p q)

  -- `helper(args).slice()`
  copy_same : (helper : List ℕ) (ps qs : List Plain) → Alike (leaves (copy_call helper ps)) (leaves (copy_call helper qs))
  copy_same helper ps qs = beside (beside (helper_same helper ps qs) (equal (w.Prop (codes "slice") ∷ []))) (equal [])

  -- `view().getInt32(p + offset, true)` and `view().setInt32(p + offset, q, true)`
  load_same : (view : List ℕ) (offset : ℕ) (is_wide : Bool) (p q : Plain)
      → Alike (leaves (load_call view offset is_wide p)) (leaves (load_call view offset is_wide q))
  load_same view offset is_wide p q =
      beside (equal (leaves (view_method view (reading_method is_wide)))) (beside (beside (operand p q) (equal [])) (equal []))

  store_same : (view : List ℕ) (offset : ℕ) (is_wide : Bool) (p q p' q' : Plain)
      → Alike (leaves (store_call view offset is_wide p q)) (leaves (store_call view offset is_wide p' q'))
  store_same view offset is_wide p q p' q' =
      beside (equal (leaves (view_method view (writing_method is_wide))))
      (beside (beside (operand p p') (equal [])) (beside (operand q q') (equal [])))

  -- `helper(p, q, function)`
  closure_same : (helper function : List ℕ) (p q p' q' : Plain)
      → Alike (leaves (closure_call helper function (p ∷ q ∷ []))) (leaves (closure_call helper function (p' ∷ q' ∷ [])))
  closure_same helper function p q p' q' =
      kept (w.Refer helper false) (beside (operand p p') (beside (operand q q') (equal (w.Refer function false ∷ []))))

  -- the same pieces, but for the locals
  abbrev AllAlike : List Piece → List Piece → Type 0
  AllAlike [] [] = Unit {0}
  AllAlike (Ahead a ∷ ps) (Ahead b ∷ qs) = Alike (line_leaves a) (line_leaves b) × AllAlike ps qs
  AllAlike (Cleanup a ∷ ps) (Cleanup b ∷ qs) = Alike (line_leaves a) (line_leaves b) × AllAlike ps qs
  AllAlike ps qs = ⊥

  called_same : (adapter i : ℕ) (has_result : Bool) (e : Expression) (ls ms : List (List ℕ)) (t t' : List Plain) (n n' : List (List ℕ))
      → AllAlike (import_row adapter i has_result e ls t n).pieces (import_row adapter i has_result e ms t' n').pieces
  called_same adapter i true e ls ms t t' n n' =
      (bound_same e (first n) (first n') ls ms (operands Missing i t []) (operands Missing i t' []), tt)
  called_same adapter i false e ls ms t t' n n' = (run_same e ls ms (operands Missing i t []) (operands Missing i t' []), tt)

  -- a row of the table: a line or two a step
  row_same : (s : Step) (p t p' t' : List Plain) (n n' : List (List ℕ))
      → AllAlike (row s p t n).pieces (row s p' t' n').pieces
  row_same (Parameter i) p t p' t' n n' = tt
  row_same Unchanged p t p' t' n n' = tt
  row_same (CallExport name i true) p t p' t' n n' = (
    bind (first n) (first n') (kept (w.Refer (codes "wasm") false)
        (kept (w.Wasm name) (passed (operands Missing i t []) (operands Missing i t' [])))),
    tt,
  )
  row_same (CallExport name i false) p t p' t' n n' = (
    kept (w.Refer (codes "wasm") false) (kept (w.Wasm name)
        (passed (operands Missing i t []) (operands Missing i t' []))),
    tt,
  )
  row_same (CallImport adapter i has_result e) p t p' t' n n' =
      let k = length e.locals in
      called_same adapter i has_result e (next_names k n) (next_names k n') t t' (without k n) (without k n')
  row_same ToUnsigned p t p' t' n n' = tt
  row_same IsNotZero p t p' t' n n' = tt
  row_same ToUnsigned64 p t p' t' n n' = (
    bind (first n) (first n') (kept (w.Host (codes "BigInt") false) (kept (w.Prop (codes "asUintN"))
        (passed (top Missing t ∷ []) (top Missing t' ∷ [])))),
    tt,
  )
  row_same (CallHelper helper i) p t p' t' n n' = (
    bind (first n) (first n') (helper_same helper (operands Missing i t []) (operands Missing i t' [])),
    tt,
  )
  row_same IndexFromBorrow p t p' t' n n' = (
    bind (first n) (first n')
        (helper_same (codes "addBorrowedObject") (top Missing t ∷ []) (top Missing t' ∷ [])),
    (equal _, tt),
  )
  row_same (UnwrapResult helper) p t p' t' n n' = (
    beside (operand (top Missing t) (top Missing t'))
        (beside (helper_same helper (top Missing (below t) ∷ []) (top Missing (below t') ∷ [])) (equal [])),
    tt,
  )
  row_same (PassToMemory helper exports optional) p t p' t' n n' = (
    bind (first n) (first n') (address_same optional helper exports (top Missing t) (top Missing t')),
    (bind (first (later n)) (first (later n')) (equal (leaves written_length)), tt),
  )
  row_same (DeferFree free align) p t p' t' n n' = (
    kept (w.Refer (codes "wasm") false) (kept (w.Wasm free)
        (passed (operands Missing 2 t []) (operands Missing 2 t' []))),
    tt,
  )
  row_same (CopyOut helper) p t p' t' n n' = (
    bind (first n) (first n') (copy_same helper (operands Missing 2 t []) (operands Missing 2 t' [])),
    tt,
  )
  row_same (ReturnPointer size) p t p' t' n n' = (bind (first n) (first n') (equal _), (equal _, tt))
  row_same (LoadReturn view offset is_wide) p t p' t' n n' = (
    bind (first n) (first n') (load_same view offset is_wide (last_of Missing p) (last_of Missing p')),
    tt,
  )
  row_same (StoreReturn view offset is_wide) p t p' t' n n' = (
    store_same view offset is_wide (item_at Missing p 0) (top Missing t) (item_at Missing p' 0) (top Missing t'),
    tt,
  )
  row_same (MakeClosure helper function) p t p' t' n n' = (
    bind (first n) (first n')
        (closure_same helper function (top Missing (below t)) (top Missing t) (top Missing (below t')) (top Missing t')),
    tt,
  )
  row_same (IndexOf list) p t p' t' n n' = (
    bind (first n) (first n') (kept (w.Refer list false) (kept (w.Prop (codes "indexOf"))
        (passed (top Missing t ∷ []) (top Missing t' ∷ [])))),
    tt,
  )
  row_same (ItemAt list) p t p' t' n n' = (
    bind (first n) (first n') (kept (w.Refer list false) (operand (top Missing t) (top Missing t'))),
    tt,
  )

  -- ---- all rows: this part knows no step

  nested_same : (ps qs : List Piece) (rest more : Lines) → AllAlike ps qs
      → Alike (lines_leaves rest) (lines_leaves more) → Alike (lines_leaves (nested ps rest))
      (lines_leaves (nested qs more))
  nested_same [] [] rest more h k = k
  nested_same (Ahead a ∷ ps) (Ahead b ∷ qs) rest more h k = beside h.0 (nested_same ps qs rest more h.1 k)
  nested_same (Cleanup a ∷ ps) (Cleanup b ∷ qs) rest more h k = beside
      (beside (nested_same ps qs rest more h.1 k) (beside h.0 (equal []))) (equal [])
  nested_same [] (q ∷ qs) rest more h k = absurd h
  nested_same (Ahead a ∷ ps) [] rest more h k = absurd h
  nested_same (Ahead a ∷ ps) (Cleanup b ∷ qs) rest more h k = absurd h
  nested_same (Cleanup a ∷ ps) [] rest more h k = absurd h
  nested_same (Cleanup a ∷ ps) (Ahead b ∷ qs) rest more h k = absurd h

  both_alike : (ps qs rs ss : List Piece) → AllAlike ps qs → AllAlike rs ss → AllAlike (ps ++ rs) (qs ++ ss)
  both_alike [] [] rs ss h k = k
  both_alike (Ahead a ∷ ps) (Ahead b ∷ qs) rs ss h k = (h.0, both_alike ps qs rs ss h.1 k)
  both_alike (Cleanup a ∷ ps) (Cleanup b ∷ qs) rs ss h k = (h.0, both_alike ps qs rs ss h.1 k)
  both_alike [] (q ∷ qs) rs ss h k = absurd h
  both_alike (Ahead a ∷ ps) [] rs ss h k = absurd h
  both_alike (Ahead a ∷ ps) (Cleanup b ∷ qs) rs ss h k = absurd h
  both_alike (Cleanup a ∷ ps) [] rs ss h k = absurd h
  both_alike (Cleanup a ∷ ps) (Ahead b ∷ qs) rs ss h k = absurd h

  ending_same : (t t' : List Plain) → AreAsMany t t' → AllAlike (ending t) (ending t')
  ending_same [] [] h = tt
  ending_same (p ∷ t) (q ∷ t') h = (operand p q, tt)
  ending_same [] (q ∷ t') h = absurd h
  ending_same (p ∷ t) [] h = absurd h

  pieces_same : (steps : List Step) (p t p' t' : List Plain) (n n' : List (List ℕ)) → AreAsMany t t'
      → AllAlike (pieces_of steps p t n) (pieces_of steps p' t' n')
  pieces_same [] p t p' t' n n' h = ending_same t t' h
  pieces_same (s ∷ steps) p t p' t' n n' h =
      let r = row s p t n in
      let r' = row s p' t' n' in
      let after = known Missing s p r.stack in
      let after' = known Missing s p' r'.stack in
      both_alike r.pieces r'.pieces (pieces_of steps after r.stack r.names) (pieces_of steps after' r'.stack r'.names)
      (row_same s p t p' t' n n')
      (pieces_same steps after r.stack after' r'.stack r.names r'.names (row_many s p t p' t' n n' h))

  tree_same : (steps : List Step) (params others : List Plain) (temps more : List (List ℕ))
      → Alike (lines_leaves (tree_of steps params temps)) (lines_leaves (tree_of steps others more))
  tree_same steps params others temps more =
      nested_same (pieces_of steps params [] temps) (pieces_of steps others [] more) NoLines NoLines
      (pieces_same steps params [] others [] temps more tt) (equal [])

  parameters_none : (names : List (List ℕ)) → found (map w.LocalBind names) ≡ []
  parameters_none [] = refl
  parameters_none (name ∷ names) = rw (outer.bound name) (parameters_none names)

  pub function_same : (steps : List Step) (names : List (List ℕ)) (params : List Plain) (temps : List (List ℕ))
      → found (function_words names (tree_of steps params temps)) ≡ found (seed_words steps)
  function_same steps names params temps =
      let tree = tree_of steps params temps in
      let bare = tree_of steps [] [] in
      let here : Has kind outer.is (function_words names tree) (function_leaves names tree) = function_names kind outer.is names tree in
      let there : Has kind outer.is (function_words [] bare) (function_leaves [] bare) = function_names kind outer.is [] bare in
      let heads : Alike (map w.LocalBind names) [] = record { same = parameters_none names } in
      let all : Alike (function_leaves names tree) (function_leaves [] bare) = beside heads (tree_same steps params [] temps []) in
      here.same ∙ all.same ∙ sym there.same

-- the names from outside are those of the words that no names are drawn for, whatever names are drawn
pub outer_is_seed : (steps : List Step) (names : List (List ℕ)) (params : List Plain) (temps : List (List ℕ))
    → outer_in (function_words names (tree_of steps params temps)) ≡ outer_in (seed_words steps)
outer_is_seed steps names params temps =
    ap (λ (ns : List (List ℕ)). ns ++ hosted_in (function_words names (tree_of steps params temps)))
    (function_same used_name (record { is = used_kind; bound = λ n. refl; local = λ n. refl }) steps names params temps)
    ∙ ap (λ (ns : List (List ℕ)). used_in (seed_words steps) ++ ns)
    (function_same hosted_name (record { is = hosted_kind; bound = λ n. refl; local = λ n. refl }) steps names params temps)
