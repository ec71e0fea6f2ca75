-- What holds of the statements of each row holds of the pieces of any steps.
use Rattle.std.proofs.Common.{◌≡◌, ℕ, ◌≤◌, List, [], ◌∷◌, ◌++◌, length, Some, None, Bool, true, false, subst, arith, append_assoc}
use Rattle.std.specs.Prelude.{codes, pos, neg_ℤ}
use Rattle.glue_tree.specs.Term.{Line, Bind, Run, Leave}
use Rattle.glue_imports.specs.declared.part.Expression.{Expression}
use Rattle.glue_steps.specs.Stack.{top, below, item_at, last_of, operands, without}
use Rattle.glue_steps.specs.AdapterMeaning.{known}
use Rattle.glue_steps.specs.declared.step.Step.{Step}
use Rattle.glue_steps.specs.declared.step.Step.TheVariants.{Parameter, Unchanged, CallExport, CallImport, ToUnsigned, IsNotZero, ToUnsigned64, CallHelper, IndexFromBorrow, UnwrapResult, PassToMemory, DeferFree, CopyOut, ReturnPointer, LoadReturn, StoreReturn, MakeClosure, IndexOf, ItemAt}
use Rattle.glue_operands.specs.Spelling.{Plain, Missing, Local, Unsigned, NotZero, term_of}
use Rattle.glue_binding.specs.Spelling.{export_call, helper_call, unsigned_64_call, import_call, gives_back_line, throw_line, address_term, written_length, free_line, copy_call, mover_call, load_call, store_call, closure_call, index_call, item_term, next_names, Piece, Ahead, Cleanup, ending, import_row, row, pieces_of, result_of, wanted_by, counted, wanted_from}
use Rattle.glue_operands.proofs.Each.{Each, each_both, each_item, each_last, each_top, each_below, each_without, each_operands}
use Rattle.glue_binding.proofs.Coming.{next_count, first_enough, left_enough, next_each, left_each}

-- a property of statements, by one of operands, one of names and one of steps: a line or two a step
pub record IsRowwise (D : Line → Type 0) (S : Plain → Type 0) (N : List ℕ → Type 0) (F : Step → Type 0) : Type 0 where
  pub missing : S Missing
  pub local : (x : List ℕ) → N x → S (Local x)
  pub unsigned : (p : Plain) → S p → S (Unsigned p)
  pub not_zero : (p : Plain) → S p → S (NotZero p)
  pub ends : (p : Plain) → S p → D (Leave (Some (term_of p)))
  pub export_runs : (name : List ℕ) (n : ℕ) → F (CallExport name n false) → (args : List Plain) → Each S args
      → D (Run (export_call name args))
  pub export_binds : (name : List ℕ) (n : ℕ) → F (CallExport name n true) → (x : List ℕ) → N x → (args : List Plain)
      → Each S args → D (Bind x (export_call name args))
  pub import_runs : (adapter n : ℕ) (e : Expression) → F (CallImport adapter n false e) → (locals : List (List ℕ))
      → length locals ≡ length e.locals → Each N locals → (args : List Plain) → Each S args → D (import_call adapter None e locals args)
  pub import_binds : (adapter n : ℕ) (e : Expression) → F (CallImport adapter n true e) → (locals : List (List ℕ))
      → length locals ≡ length e.locals → Each N locals → (x : List ℕ) → N x → (args : List Plain) → Each S args
      → D (import_call adapter (Some x) e locals args)
  pub reads : F ToUnsigned64 → (x : List ℕ) → N x → (p : Plain) → S p → D (Bind x (unsigned_64_call p))
  pub calls : (helper : List ℕ) (n : ℕ) → F (CallHelper helper n) → (x : List ℕ) → N x → (args : List Plain) → Each S args
      → D (Bind x (helper_call helper args))
  pub borrows : F IndexFromBorrow → (x : List ℕ) → N x → (p : Plain) → S p
      → D (Bind x (helper_call (codes "addBorrowedObject") (p ∷ [])))
  pub gives_back : F IndexFromBorrow → D gives_back_line
  pub throws : (helper : List ℕ) → F (UnwrapResult helper) → (p q : Plain) → S p → S q → D (throw_line helper p q)
  pub writes : (helper : List ℕ) (exports : List (List ℕ)) (optional : Bool) → F (PassToMemory helper exports optional) → (x : List ℕ) → N x
      → (p : Plain) → S p → D (Bind x (address_term optional helper exports p))
  pub lengths : (helper : List ℕ) (exports : List (List ℕ)) (optional : Bool) → F (PassToMemory helper exports optional) → (x : List ℕ) → N x
      → D (Bind x written_length)
  pub frees : (free : List ℕ) (align : ℕ) → F (DeferFree free align) → (p q : Plain) → S p → S q → D (free_line free align (p ∷ q ∷ []))
  pub copies : (helper : List ℕ) → F (CopyOut helper) → (x : List ℕ) → N x → (args : List Plain) → Each S args → D (Bind x (copy_call helper args))
  pub takes_room : (size : ℕ) → F (ReturnPointer size) → (x : List ℕ) → N x → D (Bind x (mover_call (neg_ℤ (pos size))))
  pub gives_room_back : (size : ℕ) → F (ReturnPointer size) → D (Run (mover_call (pos size)))
  pub loads : (view : List ℕ) (offset : ℕ) (is_wide : Bool) → F (LoadReturn view offset is_wide) → (x : List ℕ) → N x → (p : Plain) → S p
      → D (Bind x (load_call view offset is_wide p))
  pub stores : (view : List ℕ) (offset : ℕ) (is_wide : Bool) → F (StoreReturn view offset is_wide) → (p q : Plain) → S p → S q
      → D (Run (store_call view offset is_wide p q))
  pub makes : (helper function : List ℕ) → F (MakeClosure helper function) → (x : List ℕ) → N x → (p q : Plain) → S p → S q
      → D (Bind x (closure_call helper function (p ∷ q ∷ [])))
  pub finds : (list : List ℕ) → F (IndexOf list) → (x : List ℕ) → N x → (p : Plain) → S p → D (Bind x (index_call list p))
  pub picks : (list : List ℕ) → F (ItemAt list) → (x : List ℕ) → N x → (p : Plain) → S p → D (Bind x (item_term list p))

-- the statement of each piece has the property
abbrev pub AllHave : (Line → Type 0) → List Piece → Type 0
AllHave D [] = Unit {0}
AllHave D (Ahead line ∷ pieces) = D line × AllHave D pieces
AllHave D (Cleanup line ∷ pieces) = D line × AllHave D pieces

-- so many names as a call wants and later steps do
called_enough : (adapter n : ℕ) (has_result : Bool) (e : Expression) (locals : List (List ℕ)) (stack : List Plain) (names rest : List (List ℕ))
    → length (result_of has_result ++ rest) ≤ length names → length rest ≤ length (import_row adapter n has_result e locals stack names).names
called_enough adapter n true e locals stack [] rest le = absurd (omega (arith, le))
called_enough adapter n true e locals stack (x ∷ names) rest le = omega (arith, le)
called_enough adapter n false e locals stack names rest le = le

-- the names that a call wants, in two parts
apart_wanted : (e : Expression) (has_result : Bool) (rest names : List (List ℕ)) → length ((e.locals ++ result_of has_result) ++ rest) ≤ length names
    → length (e.locals ++ (result_of has_result ++ rest)) ≤ length names
apart_wanted e has_result rest names le =
    subst (λ (ws : List (List ℕ)). length ws ≤ length names) (append_assoc e.locals (result_of has_result) rest) le

-- as many names are left as later steps want
row_enough : (s : Step) (params stack : List Plain) (names : List (List ℕ)) (count : ℕ) (rest : List (List ℕ))
    → length (wanted_by s count ++ rest) ≤ length names → length rest ≤ length (row s params stack names).names
row_enough (Parameter n) params stack names count rest le = le
row_enough Unchanged params stack names count rest le = le
row_enough (CallExport name n true) params stack [] count rest le = absurd (omega (arith, le))
row_enough (CallExport name n true) params stack (x ∷ names) count rest le = omega (arith, le)
row_enough (CallExport name n false) params stack names count rest le = le
row_enough (CallImport adapter n has_result e) params stack names count rest le =
    called_enough adapter n has_result e (next_names (length e.locals) names) stack (without (length e.locals) names) rest
    (left_enough e.locals (result_of has_result ++ rest) names (apart_wanted e has_result rest names le))
row_enough ToUnsigned params stack names count rest le = le
row_enough IsNotZero params stack names count rest le = le
row_enough ToUnsigned64 params stack [] count rest le = absurd (omega (arith, le))
row_enough ToUnsigned64 params stack (x ∷ names) count rest le = omega (arith, le)
row_enough (CallHelper helper n) params stack [] count rest le = absurd (omega (arith, le))
row_enough (CallHelper helper n) params stack (x ∷ names) count rest le = omega (arith, le)
row_enough IndexFromBorrow params stack [] count rest le = absurd (omega (arith, le))
row_enough IndexFromBorrow params stack (x ∷ names) count rest le = omega (arith, le)
row_enough (UnwrapResult helper) params stack names count rest le = le
row_enough (PassToMemory helper exports optional) params stack [] count rest le = absurd (omega (arith, le))
row_enough (PassToMemory helper exports optional) params stack (x ∷ []) count rest le = absurd (omega (arith, le))
row_enough (PassToMemory helper exports optional) params stack (x ∷ y ∷ names) count rest le = omega (arith, le)
row_enough (DeferFree free align) params stack names count rest le = le
row_enough (CopyOut helper) params stack [] count rest le = absurd (omega (arith, le))
row_enough (CopyOut helper) params stack (x ∷ names) count rest le = omega (arith, le)
row_enough (ReturnPointer size) params stack [] count rest le = absurd (omega (arith, le))
row_enough (ReturnPointer size) params stack (x ∷ names) count rest le = omega (arith, le)
row_enough (LoadReturn view offset is_wide) params stack [] count rest le = absurd (omega (arith, le))
row_enough (LoadReturn view offset is_wide) params stack (x ∷ names) count rest le = omega (arith, le)
row_enough (StoreReturn view offset is_wide) params stack names count rest le = le
row_enough (MakeClosure helper function) params stack [] count rest le = absurd (omega (arith, le))
row_enough (MakeClosure helper function) params stack (x ∷ names) count rest le = omega (arith, le)
row_enough (IndexOf list) params stack [] count rest le = absurd (omega (arith, le))
row_enough (IndexOf list) params stack (x ∷ names) count rest le = omega (arith, le)
row_enough (ItemAt list) params stack [] count rest le = absurd (omega (arith, le))
row_enough (ItemAt list) params stack (x ∷ names) count rest le = omega (arith, le)

module _ {D : Line → Type 0} {S : Plain → Type 0} {N : List ℕ → Type 0} {F : Step → Type 0}
    (is : IsRowwise D S N F) where
  -- what a row leaves
  record RowHas (pieces : List Piece) (stack : List Plain) (names : List (List ℕ)) : Type 0 where
    pieces_have : AllHave D pieces
    stack_has : Each S stack
    names_have : Each N names

  called_has : (adapter n : ℕ) (has_result : Bool) (e : Expression) (locals : List (List ℕ)) (stack : List Plain) (names rest : List (List ℕ))
      → F (CallImport adapter n has_result e) → length locals ≡ length e.locals → Each N locals
      → length (result_of has_result ++ rest) ≤ length names → Each S stack → Each N names
      → RowHas (import_row adapter n has_result e locals stack names).pieces (import_row adapter n has_result e locals stack names).stack
      (import_row adapter n has_result e locals stack names).names
  called_has adapter n true e locals stack [] rest f c l le t m = absurd (omega (arith, le))
  called_has adapter n true e locals stack (x ∷ names) rest f c l le t m = record {
    pieces_have = (
      is.import_binds adapter n e f locals c l x m.0 (operands Missing n stack []) (each_operands S Missing is.missing n stack [] t tt),
      tt,
    );
    stack_has = (is.local x m.0, each_without S Missing is.missing n stack t);
    names_have = m.1;
  }
  called_has adapter n false e locals stack names rest f c l le t m = record {
    pieces_have = (
      is.import_runs adapter n e f locals c l (operands Missing n stack []) (each_operands S Missing is.missing n stack [] t tt),
      tt,
    );
    stack_has = each_without S Missing is.missing n stack t;
    names_have = m;
  }

  row_has : (s : Step) (params stack : List Plain) (names : List (List ℕ)) (count : ℕ) (rest : List (List ℕ)) → F s
      → length (wanted_by s count ++ rest) ≤ length names → Each S params → Each S stack → Each N names
      → RowHas (row s params stack names).pieces (row s params stack names).stack (row s params stack names).names
  row_has (Parameter n) params stack names count rest f le p t m = record {
    pieces_have = tt;
    stack_has =
        (each_item S Missing is.missing params n p, t);
    names_have = m;
  }
  row_has Unchanged params stack names count rest f le p t m =
      record {
        pieces_have = tt;
        stack_has = (
          each_top S Missing is.missing stack t,
          each_below S Missing is.missing
              stack t,
        );
        names_have = m;
      }
  row_has (CallExport name n true) params stack [] count rest f le p t m = absurd (omega (arith, le))
  row_has (CallExport name n true) params stack (x ∷ names) count rest f le p t m = record {
    pieces_have = (
      is.export_binds name n f x m.0 (operands Missing n stack [])
          (each_operands S Missing is.missing n stack [] t tt),
      tt,
    );
    stack_has = (is.local x m.0, each_without S Missing is.missing n stack t);
    names_have = m.1;
  }
  row_has (CallExport name n false) params stack names count rest f le p t m = record {
    pieces_have = (
      is.export_runs name n f (operands Missing n stack [])
          (each_operands S Missing is.missing n stack [] t tt),
      tt,
    );
    stack_has = each_without S Missing is.missing n stack t;
    names_have = m;
  }
  row_has (CallImport adapter n has_result e) params stack names count rest f le p t m =
      let k = length e.locals in
      let wanted = apart_wanted e has_result rest names le in
      called_has adapter n has_result e (next_names k names) stack (without k names) rest f (next_count k names)
      (next_each N k names (first_enough e.locals (result_of has_result ++ rest) names wanted) m)
      (left_enough e.locals (result_of has_result ++ rest) names wanted) t (left_each N k names m)
  row_has ToUnsigned params stack names count rest f le p t m =
      record {
        pieces_have = tt;
        stack_has = (
          is.unsigned (top Missing stack)
              (each_top S Missing is.missing stack t),
          each_below S Missing is.missing stack t,
        );
        names_have = m;
      }
  row_has IsNotZero params stack names count rest f le p t m =
      record {
        pieces_have = tt;
        stack_has = (
          is.not_zero (top Missing stack)
              (each_top S Missing is.missing stack t),
          each_below S Missing is.missing stack t,
        );
        names_have = m;
      }
  row_has ToUnsigned64 params stack [] count rest f le p t m = absurd (omega (arith, le))
  row_has ToUnsigned64 params stack (x ∷ names) count rest f le p t m = record {
    pieces_have = (is.reads f x m.0 (top Missing stack) (each_top S Missing is.missing stack t), tt);
    stack_has = (is.local x m.0, each_below S Missing is.missing stack t);
    names_have = m.1;
  }
  row_has (CallHelper helper n) params stack [] count rest f le p t m = absurd (omega (arith, le))
  row_has (CallHelper helper n) params stack (x ∷ names) count rest f le p t m = record {
    pieces_have = (
      is.calls helper n f x m.0 (operands Missing n stack [])
          (each_operands S Missing is.missing n stack [] t tt),
      tt,
    );
    stack_has = (is.local x m.0, each_without S Missing is.missing n stack t);
    names_have = m.1;
  }
  row_has IndexFromBorrow params stack [] count rest f le p t m = absurd (omega (arith, le))
  row_has IndexFromBorrow params stack (x ∷ names) count rest f le p t m = record {
    pieces_have = (
      is.borrows f x m.0 (top Missing stack) (each_top S Missing is.missing stack t),
      (is.gives_back f, tt),
    );
    stack_has = (is.local x m.0, each_below S Missing is.missing stack t);
    names_have = m.1;
  }
  row_has (UnwrapResult helper) params stack names count rest f le p t m =
      let under = each_below S Missing is.missing stack t in record {
        pieces_have = (
          is.throws helper f (top Missing stack) (top Missing (below stack))
              (each_top S Missing is.missing stack t) (each_top S Missing is.missing (below stack) under),
          tt,
        );
        stack_has = each_below S Missing is.missing (below stack) under;
        names_have = m;
      }
  row_has (PassToMemory helper exports optional) params stack [] count rest f le p t m = absurd (omega (arith, le))
  row_has (PassToMemory helper exports optional) params stack (x ∷ []) count rest f le p t m = absurd (omega (arith, le))
  row_has (PassToMemory helper exports optional) params stack (x ∷ y ∷ names) count rest f le p t m = record {
    pieces_have = (
      is.writes helper exports optional f x m.0 (top Missing stack) (each_top S Missing is.missing stack t),
      (is.lengths helper exports optional f y m.1.0, tt),
    );
    stack_has = (is.local y m.1.0, (is.local x m.0, each_below S Missing is.missing stack t));
    names_have = m.1.1;
  }
  row_has (DeferFree free align) params stack names count rest f le p t m =
      let under = each_below S Missing is.missing stack t in record {
        pieces_have = (
          is.frees free align f (top Missing (below stack)) (top Missing stack)
              (each_top S Missing is.missing (below stack) under) (each_top S Missing is.missing stack t),
          tt,
        );
        stack_has = t;
        names_have = m;
      }
  row_has (CopyOut helper) params stack [] count rest f le p t m = absurd (omega (arith, le))
  row_has (CopyOut helper) params stack (x ∷ names) count rest f le p t m = record {
    pieces_have = (
      is.copies helper f x m.0 (operands Missing 2 stack [])
          (each_operands S Missing is.missing 2 stack [] t tt),
      tt,
    );
    stack_has = (is.local x m.0, each_without S Missing is.missing 2 stack t);
    names_have = m.1;
  }
  row_has (ReturnPointer size) params stack [] count rest f le p t m = absurd (omega (arith, le))
  row_has (ReturnPointer size) params stack (x ∷ names) count rest f le p t m = record {
    pieces_have = (is.takes_room size f x m.0, (is.gives_room_back size f, tt));
    stack_has = (is.local x m.0, t);
    names_have = m.1;
  }
  row_has (LoadReturn view offset is_wide) params stack [] count rest f le p t m = absurd (omega (arith, le))
  row_has (LoadReturn view offset is_wide) params stack (x ∷ names) count rest f le p t m = record {
    pieces_have = (is.loads view offset is_wide f x m.0 (last_of Missing params) (each_last S Missing is.missing params p), tt);
    stack_has = (is.local x m.0, t);
    names_have = m.1;
  }
  row_has (StoreReturn view offset is_wide) params stack names count rest f le p t m = record {
    pieces_have = (
      is.stores view offset is_wide f (item_at Missing params 0) (top Missing stack)
          (each_item S Missing is.missing params 0 p) (each_top S Missing is.missing stack t),
      tt,
    );
    stack_has = each_below S Missing is.missing stack t;
    names_have = m;
  }
  row_has (MakeClosure helper function) params stack [] count rest f le p t m = absurd (omega (arith, le))
  row_has (MakeClosure helper function) params stack (x ∷ names) count rest f le p t m =
      let under = each_below S Missing is.missing stack t in record {
        pieces_have = (
          is.makes helper function f x m.0 (top Missing (below stack)) (top Missing stack)
              (each_top S Missing is.missing (below stack) under) (each_top S Missing is.missing stack t),
          tt,
        );
        stack_has = (is.local x m.0, each_below S Missing is.missing (below stack) under);
        names_have = m.1;
      }
  row_has (IndexOf list) params stack [] count rest f le p t m = absurd (omega (arith, le))
  row_has (IndexOf list) params stack (x ∷ names) count rest f le p t m = record {
    pieces_have = (is.finds list f x m.0 (top Missing stack) (each_top S Missing is.missing stack t), tt);
    stack_has = (is.local x m.0, each_below S Missing is.missing stack t);
    names_have = m.1;
  }
  row_has (ItemAt list) params stack [] count rest f le p t m = absurd (omega (arith, le))
  row_has (ItemAt list) params stack (x ∷ names) count rest f le p t m = record {
    pieces_have = (is.picks list f x m.0 (top Missing stack) (each_top S Missing is.missing stack t), tt);
    stack_has = (is.local x m.0, each_below S Missing is.missing stack t);
    names_have = m.1;
  }

  -- what later steps know has the property too
  known_has : (s : Step) (params stack : List Plain) → Each S params → Each S stack → Each S (known Missing s params stack)
  known_has (ReturnPointer size) params stack p t =
      each_both S params (top Missing stack ∷ []) p (each_top S Missing is.missing stack t, tt)
  known_has other params stack p t = p

  -- ---- all rows: this part knows no step

  all_both : (xs ys : List Piece) → AllHave D xs → AllHave D ys → AllHave D (xs ++ ys)
  all_both [] ys h k = k
  all_both (Ahead line ∷ xs) ys h k = (h.0, all_both xs ys h.1 k)
  all_both (Cleanup line ∷ xs) ys h k = (h.0, all_both xs ys h.1 k)

  ending_has : (stack : List Plain) → Each S stack → AllHave D (ending stack)
  ending_has [] h = tt
  ending_has (p ∷ stack) h = (is.ends p h.0, tt)

  pub pieces_have : (steps : List Step) (params stack : List Plain) (names : List (List ℕ)) (count : ℕ) → Each F steps
      → length (wanted_from count steps) ≤ length names → Each S params → Each S stack → Each N names
      → AllHave D (pieces_of steps params stack names)
  pieces_have [] params stack names count f le p t m = ending_has stack t
  pieces_have (s ∷ steps) params stack names count f le p t m =
      let rest = wanted_from (counted s count) steps in
      let r = row s params stack names in
      let here : RowHas r.pieces r.stack r.names = row_has s params stack names count rest f.0 le p t m in
      let after = known Missing s params r.stack in
      all_both r.pieces (pieces_of steps after r.stack r.names) here.pieces_have
      (pieces_have steps after r.stack r.names (counted s count) f.1
      (row_enough s params stack names count rest le) (known_has s params r.stack p here.stack_has) here.stack_has here.names_have)
