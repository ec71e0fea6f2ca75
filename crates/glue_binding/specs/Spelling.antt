-- The statements that the steps of an adapter are spelled by.
use Rattle.std.specs.Prelude.{ℕ, zero, suc, ◌+◌, ℤ, pos, neg_ℤ, Bool, true, false, List, [], ◌∷◌, ◌++◌, length, map, Option, Some, None, codes}
use Rattle.glue_words.specs.Ident.{numbered}
use Rattle.glue_imports.specs.declared.part.Expression.{Expression}
use Rattle.glue_tree.specs.declared.tree.Constant.TheVariants as constant
use Rattle.glue_tree.specs.declared.tree.UnaryOperator.TheVariants as unary
use Rattle.glue_tree.specs.declared.tree.BinaryOperator.TheVariants as binary
use Rattle.glue_tree.specs.Term.{Term, Lit, Const, Name, Outside, Export, Field, Index, Apply, One, Two, Choose, NoTerms, AndTerm, Line, Bind, Put, Run, When, Always, Fail, Leave, Inner, Lines, NoLines, AndLine}
use Rattle.glue_tree.specs.Plainly.{terms_of}
use Rattle.glue_steps.specs.Stack.{top, below, item_at, last_of, operands, without}
use Rattle.glue_steps.specs.AdapterMeaning.{stack_mover, reading_method, writing_method, known}
use Rattle.glue_steps.specs.declared.step.Step.{Step}
use Rattle.glue_steps.specs.declared.step.Step.TheVariants.{Parameter, Unchanged, CallExport, CallImport, ToUnsigned, IsNotZero, ToUnsigned64, CallHelper, IndexFromBorrow, UnwrapResult, PassToMemory, DeferFree, CopyOut, ReturnPointer, LoadReturn, StoreReturn, MakeClosure, IndexOf, ItemAt}
use Rattle.glue_operands.specs.Spelling.{Plain, Missing, Local, Unsigned, NotZero, term_of, terms, import_line_words}

-- ---- names to come

-- the first of the names to come, or the empty name
abbrev pub first : List (List ℕ) → List ℕ
first names = top [] names

-- the names after it
abbrev pub later : List (List ℕ) → List (List ℕ)
later names = below names

-- so many of the names to come, with the empty name for each that is lacking
abbrev pub next_names : ℕ → List (List ℕ) → List (List ℕ)
next_names zero names = []
next_names (suc n) names = first names ∷ next_names n (later names)

-- ---- texts of steps

-- `wasm.name(args)`
abbrev pub export_call : (name : List ℕ) → (args : List Plain) → Term
export_call name args = Apply (Export name) (terms args)

-- `helper(args)`
abbrev pub helper_call : (key : List ℕ) → (args : List Plain) → Term
helper_call key args = Apply (Name key) (terms args)

-- `BigInt.asUintN`
abbrev pub as_unsigned : Term
as_unsigned = Field (Outside (codes "BigInt")) (codes "asUintN")

-- `BigInt.asUintN(64, p)`
abbrev pub unsigned_64_call : Plain → Term
unsigned_64_call p = Apply as_unsigned (AndTerm (Lit (pos 64)) (terms (p ∷ [])))

-- the call of an import, its answer bound to a local if there is one
abbrev pub import_call : (adapter : ℕ) → (bound : Option (List ℕ)) → Expression → (locals : List (List ℕ)) → (args : List Plain) → Line
import_call adapter bound e locals args = Inner adapter (terms args) bound (import_line_words bound e locals args)

-- `heap[stack_pointer++] = undefined;`
abbrev pub gives_back_line : Line
gives_back_line = Put (Index (Name (codes "heap")) (One unary.Increment (Name (codes "stack_pointer")))) (Outside (codes "undefined"))

-- `if (flag) { throw helper(handle); }`
abbrev pub throw_line : (helper : List ℕ) → (flag handle : Plain) → Line
throw_line helper flag handle = When (term_of flag) (AndLine (Fail (helper_call helper (handle ∷ []))) NoLines)

-- `helper(p, wasm.name, ..)`
abbrev pub write_call : (helper : List ℕ) → (exports : List (List ℕ)) → Plain → Term
write_call helper exports p = Apply (Name helper) (AndTerm (term_of p) (terms_of (map Export exports)))

-- the address of what is written: `isLikeNone(p) ? 0 : helper(p, wasm.name, ..)` where it may be absent
abbrev pub address_term : (optional : Bool) → (helper : List ℕ) → (exports : List (List ℕ)) → Plain → Term
address_term false helper exports p = write_call helper exports p
address_term true helper exports p = Choose (helper_call (codes "isLikeNone") (p ∷ [])) (Lit (pos 0)) (write_call helper exports p)

-- the length that was written
abbrev pub written_length : Term
written_length = Name (codes "WASM_VECTOR_LEN")

-- `wasm.free(address, length, align);`
abbrev pub free_line : (free : List ℕ) → (align : ℕ) → (args : List Plain) → Line
free_line free align args = Run (Apply (Export free) (terms_of (map term_of args ++ Lit (pos align) ∷ [])))

-- `helper(address, length).slice()`
abbrev pub copy_call : (helper : List ℕ) → (args : List Plain) → Term
copy_call helper args = Apply (Field (helper_call helper args) (codes "slice")) NoTerms

-- `wasm.__wbindgen_add_to_stack_pointer(amount)`
abbrev pub mover_call : (amount : ℤ) → Term
mover_call amount = Apply (Export stack_mover) (AndTerm (Lit amount) NoTerms)

-- `address + offset`
abbrev pub place_term : (address : Plain) → (offset : ℕ) → Term
place_term address offset = Two binary.Add (term_of address) (Lit (pos offset))

-- `view().method`
abbrev pub view_method : (view method : List ℕ) → Term
view_method view method = Field (helper_call view []) method

-- `view().getInt32(address + offset, true)`
abbrev pub load_call : (view : List ℕ) → (offset : ℕ) → (is_wide : Bool) → (address : Plain) → Term
load_call view offset is_wide address =
    Apply (view_method view (reading_method is_wide)) (AndTerm (place_term address offset) (AndTerm (Const constant.True) NoTerms))

-- `view().setInt32(address + offset, value, true)`
abbrev pub store_call : (view : List ℕ) → (offset : ℕ) → (is_wide : Bool) → (address stored : Plain) → Term
store_call view offset is_wide address stored =
    Apply (view_method view (writing_method is_wide))
    (AndTerm (place_term address offset) (AndTerm (term_of stored) (AndTerm (Const constant.True) NoTerms)))

-- `helper(address, other, function)`
abbrev pub closure_call : (helper function : List ℕ) → (args : List Plain) → Term
closure_call helper function args = Apply (Name helper) (terms_of (map term_of args ++ Name function ∷ []))

-- `list.indexOf(p)`
abbrev pub index_call : (list : List ℕ) → Plain → Term
index_call list p = Apply (Field (Name list) (codes "indexOf")) (terms (p ∷ []))

-- `list[p]`
abbrev pub item_term : (list : List ℕ) → Plain → Term
item_term list p = Index (Name list) (term_of p)

-- ---- the table of steps

-- what a step adds to the statements: a statement, or a cleanup of all that comes after
pub data Piece : Type 0 where
  Ahead : Line → Piece
  Cleanup : Line → Piece

-- a row of the table: its pieces, the operands that it leaves, and the names that it leaves to later rows
pub record Row : Type 0 where
  pub pieces : List Piece
  pub stack : List Plain
  pub names : List (List ℕ)

-- a row of these
abbrev pub made : List Piece → List Plain → List (List ℕ) → Row
made pieces stack names = record { pieces = pieces; stack = stack; names = names }

-- the row of a call of an import, with locals of these names
abbrev pub import_row : (adapter params : ℕ) → (has_result : Bool) → Expression → (locals : List (List ℕ)) → (stack : List Plain)
    → (names : List (List ℕ)) → Row
import_row adapter n true e locals stack names =
    made (Ahead (import_call adapter (Some (first names)) e locals (operands Missing n stack [])) ∷ [])
    (Local (first names) ∷ without n stack) (later names)
import_row adapter n false e locals stack names =
    made (Ahead (import_call adapter None e locals (operands Missing n stack [])) ∷ []) (without n stack) names

-- the table of steps; what a step knows beside the stack are the parameters, and behind them the address of room that was taken
abbrev pub row : Step → (params stack : List Plain) → (names : List (List ℕ)) → Row
row (Parameter n) params stack names = made [] (item_at Missing params n ∷ stack) names
row Unchanged params stack names = made [] (top Missing stack ∷ below stack) names
row (CallExport name n true) params stack names =
    made (Ahead (Bind (first names) (export_call name (operands Missing n stack []))) ∷ [])
    (Local (first names) ∷ without n stack) (later names)
row (CallExport name n false) params stack names =
    made (Ahead (Run (export_call name (operands Missing n stack []))) ∷ []) (without n stack) names
row (CallImport adapter n has_result e) params stack names =
    import_row adapter n has_result e (next_names (length e.locals) names) stack (without (length e.locals) names)
row ToUnsigned params stack names = made [] (Unsigned (top Missing stack) ∷ below stack) names
row IsNotZero params stack names = made [] (NotZero (top Missing stack) ∷ below stack) names
row ToUnsigned64 params stack names =
    made (Ahead (Bind (first names) (unsigned_64_call (top Missing stack))) ∷ [])
    (Local (first names) ∷ below stack) (later names)
row (CallHelper helper n) params stack names =
    made (Ahead (Bind (first names) (helper_call helper (operands Missing n stack []))) ∷ [])
    (Local (first names) ∷ without n stack) (later names)
row IndexFromBorrow params stack names =
    made (Ahead (Bind (first names) (helper_call (codes "addBorrowedObject") (top Missing stack ∷ [])))
    ∷ Cleanup gives_back_line ∷ [])
    (Local (first names) ∷ below stack) (later names)
row (UnwrapResult helper) params stack names =
    made (Ahead (throw_line helper (top Missing stack) (top Missing (below stack))) ∷ []) (below (below stack)) names
row (PassToMemory helper exports optional) params stack names =
    made (Ahead (Bind (first names) (address_term optional helper exports (top Missing stack)))
    ∷ Ahead (Bind (first (later names)) written_length) ∷ [])
    (Local (first (later names)) ∷ Local (first names) ∷ below stack) (later (later names))
row (DeferFree free align) params stack names = made (Cleanup (free_line free align (operands Missing 2 stack [])) ∷ []) stack names
row (CopyOut helper) params stack names =
    made (Ahead (Bind (first names) (copy_call helper (operands Missing 2 stack []))) ∷ [])
    (Local (first names) ∷ without 2 stack) (later names)
row (ReturnPointer size) params stack names =
    made (Ahead (Bind (first names) (mover_call (neg_ℤ (pos size)))) ∷ Cleanup (Run (mover_call (pos size))) ∷ [])
    (Local (first names) ∷ stack) (later names)
row (LoadReturn view offset is_wide) params stack names =
    made (Ahead (Bind (first names) (load_call view offset is_wide (last_of Missing params))) ∷ [])
    (Local (first names) ∷ stack) (later names)
row (StoreReturn view offset is_wide) params stack names =
    made (Ahead (Run (store_call view offset is_wide (item_at Missing params 0) (top Missing stack))) ∷ []) (below stack) names
row (MakeClosure helper function) params stack names =
    made (Ahead (Bind (first names) (closure_call helper function (operands Missing 2 stack []))) ∷ [])
    (Local (first names) ∷ without 2 stack) (later names)
row (IndexOf list) params stack names =
    made (Ahead (Bind (first names) (index_call list (top Missing stack))) ∷ []) (Local (first names) ∷ below stack) (later names)
row (ItemAt list) params stack names =
    made (Ahead (Bind (first names) (item_term list (top Missing stack))) ∷ []) (Local (first names) ∷ below stack) (later names)

-- at the end the newest operand is returned, where there is one
abbrev pub ending : List Plain → List Piece
ending [] = []
ending (p ∷ stack) = Ahead (Leave (Some (term_of p))) ∷ []

-- the pieces of the steps, with the end behind them
abbrev pub pieces_of : List Step → (params stack : List Plain) → (names : List (List ℕ)) → List Piece
pieces_of [] params stack names = ending stack
pieces_of (s ∷ steps) params stack names =
    (row s params stack names).pieces ++ pieces_of steps (known Missing s params (row s params stack names).stack)
    (row s params stack names).stack (row s params stack names).names

-- `try { rest } finally { last }`
abbrev pub cleaned_by : Line → Lines → Lines
cleaned_by last rest = AndLine (Always rest (AndLine last NoLines)) NoLines

-- the statements of pieces in front of others: a cleanup stands behind all of them
abbrev pub nested : List Piece → Lines → Lines
nested [] rest = rest
nested (Ahead line ∷ pieces) rest = AndLine line (nested pieces rest)
nested (Cleanup line ∷ pieces) rest = cleaned_by line (nested pieces rest)

-- the body of an adapter's function whose parameters are spelled as these operands, with these temporaries
abbrev pub tree_of : List Step → (params : List Plain) → (temps : List (List ℕ)) → Lines
tree_of steps params temps = nested (pieces_of steps params [] temps) NoLines

-- ---- temporaries

-- the temporary of a call that has a result
abbrev pub result_of : Bool → List (List ℕ)
result_of true = codes "ret" ∷ []
result_of false = []

-- the temporaries that a step wants: the locals of the statements before it and `ret` for a call, `retptr` for room, `ptr` and `len` for what is
-- written to memory, else `v`, each but `ret` and `retptr` with how many steps before it have such a one
abbrev pub wanted_by : Step → (count : ℕ) → List (List ℕ)
wanted_by (CallExport name n has_result) count = result_of has_result
wanted_by (CallImport adapter n has_result e) count = e.locals ++ result_of has_result
wanted_by ToUnsigned64 count = numbered (codes "v") count ∷ []
wanted_by (CallHelper helper n) count = numbered (codes "v") count ∷ []
wanted_by IndexFromBorrow count = numbered (codes "v") count ∷ []
wanted_by (PassToMemory helper exports optional) count = numbered (codes "ptr") count ∷ numbered (codes "len") count ∷ []
wanted_by (CopyOut helper) count = numbered (codes "v") count ∷ []
wanted_by (ReturnPointer size) count = codes "retptr" ∷ []
wanted_by (LoadReturn view offset is_wide) count = numbered (codes "v") count ∷ []
wanted_by (MakeClosure helper function) count = numbered (codes "v") count ∷ []
wanted_by (IndexOf list) count = numbered (codes "v") count ∷ []
wanted_by (ItemAt list) count = numbered (codes "v") count ∷ []
wanted_by other count = []

-- how many have one after the step
abbrev pub counted : Step → (count : ℕ) → ℕ
counted ToUnsigned64 count = count + 1
counted (CallHelper helper n) count = count + 1
counted IndexFromBorrow count = count + 1
counted (PassToMemory helper exports optional) count = count + 1
counted (CopyOut helper) count = count + 1
counted (LoadReturn view offset is_wide) count = count + 1
counted (MakeClosure helper function) count = count + 1
counted (IndexOf list) count = count + 1
counted (ItemAt list) count = count + 1
counted other count = count

-- the temporaries that steps want, where so many before them have a numbered one
abbrev pub wanted_from : (count : ℕ) → List Step → List (List ℕ)
wanted_from count [] = []
wanted_from count (s ∷ steps) = wanted_by s count ++ wanted_from (counted s count) steps

-- the temporaries that the steps of an adapter want
abbrev pub temporaries : List Step → List (List ℕ)
temporaries steps = wanted_from 0 steps
