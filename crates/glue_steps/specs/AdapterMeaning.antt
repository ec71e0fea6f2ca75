-- What an adapter does: its steps run over a stack of operands.
use Rattle.std.specs.Prelude.{ℕ, zero, suc, pos, neg_ℤ, Bool, true, false, List, [], ◌∷◌, ◌++◌, Option, Some, None, codes}
use Rattle.values.specs.Value.{Helper, OfExport, OfHost, Value, Undefined, Null, Truth, Number, Itself, Reads, ReadsAt, WritesAt, Calls, CallsOn, CallsAdapter, Answer, Ran, Went, Threw, Ended, Act, goes_on, step, and_then_cleans, is_true, unsigned, is_not_zero, sum_of, bump}
use Rattle.glue_steps.specs.Stack.{top, below, item_at, last_of, operands, without}
use Rattle.glue_steps.specs.declared.step.Step.{Step}
use Rattle.glue_steps.specs.declared.step.Step.TheVariants.{Parameter, Unchanged, CallExport, CallImport, ToUnsigned, IsNotZero, ToUnsigned64, CallHelper, IndexFromBorrow, UnwrapResult, PassToMemory, DeferFree, CopyOut, ReturnPointer, LoadReturn, StoreReturn, MakeClosure, IndexOf, ItemAt}

-- ---- steps. Where an operand or a parameter is lacking, `null` stands for it; a checked adapter never comes there

-- what a step leaves: the stack, the newest operand first, and the cleanups that it asks for
abbrev pub Left : Type 0
Left = List Value × List (Act Value)

-- nothing is left to clean up
abbrev pub pushes : List Value → Act Left
pushes stack = Went (stack, [])

-- the stack after a call: its answer is pushed if the called function has a result
abbrev pub after_call : Bool → Value → List Value → List Value
after_call true v stack = v ∷ stack
after_call false v stack = stack

-- `heap[stack_pointer++] = undefined`
abbrev pub gives_back : Act Value
gives_back trace answers =
    goes_on (step (Reads (Helper (codes "heap"))) trace answers) (λ heap trace answers.
    goes_on (bump (Helper (codes "stack_pointer")) trace answers) (λ place.
    step (WritesAt heap place Undefined)))

-- where a flag is true, a helper takes the object with a handle out of its table, and the object is thrown
abbrev pub throws_if : Bool → (helper : List ℕ) → Value → List Value → Act Left
throws_if false helper handle stack trace answers = pushes stack trace answers
throws_if true helper handle stack trace answers =
    goes_on (step (Calls (Helper helper) (handle ∷ [])) trace answers) Threw

-- `BigInt.asUintN(64, v)`
abbrev pub unsigned_64 : Value → Act Value
unsigned_64 v = step (CallsOn (Itself (OfHost (codes "BigInt"))) (codes "asUintN") (Number (pos 64) ∷ v ∷ []))

-- the exports of these names, one after another
abbrev pub exports_of : List (List ℕ) → Act (List Value)
exports_of [] trace answers = Went [] trace answers
exports_of (name ∷ names) trace answers =
    goes_on (step (Reads (OfExport name)) trace answers) (λ v trace answers.
    goes_on (exports_of names trace answers) (λ vs. Went (v ∷ vs)))

-- `helper(v, wasm.name, ..)`
abbrev pub writes : (helper : List ℕ) → (exports : List (List ℕ)) → Value → Act Value
writes helper exports v trace answers =
    goes_on (exports_of exports trace answers) (λ vs. step (Calls (Helper helper) (v ∷ vs)))

-- 0 where a value is absent, and else what writes it
abbrev pub unless_absent : Bool → Act Value → Act Value
unless_absent true act trace answers = Went (Number (pos 0)) trace answers
unless_absent false act trace answers = act trace answers

-- the address of a value that is written: `isLikeNone(v) ? 0 : helper(v, ..)` where it may be absent
abbrev pub address_of : (optional : Bool) → (helper : List ℕ) → (exports : List (List ℕ)) → Value → Act Value
address_of false helper exports v trace answers = writes helper exports v trace answers
address_of true helper exports v trace answers =
    goes_on (step (Calls (Helper (codes "isLikeNone")) (v ∷ [])) trace answers) (λ absent.
    unless_absent (is_true absent) (writes helper exports v))

-- `wasm.free(address, length, align)`, of the two newest operands
abbrev pub frees : (free : List ℕ) → (align : ℕ) → List Value → Act Value
frees free align stack = step (Calls (OfExport free) (operands Null 2 stack (Number (pos align) ∷ [])))

-- `helper(address, length).slice()`, of the two newest operands
abbrev pub copies : (helper : List ℕ) → List Value → Act Value
copies helper stack trace answers =
    goes_on (step (Calls (Helper helper) (operands Null 2 stack [])) trace answers) (λ view.
    step (CallsOn view (codes "slice") []))

-- the export that moves the stack of the module by so many bytes, and answers the address where it then ends
abbrev pub stack_mover : List ℕ
stack_mover = codes "__wbindgen_add_to_stack_pointer"

-- room of so many bytes on the stack of the module is taken, and given back
abbrev pub takes_room : (size : ℕ) → Act Value
takes_room size = step (Calls (OfExport stack_mover) (Number (neg_ℤ (pos size)) ∷ []))

abbrev pub gives_room_back : (size : ℕ) → Act Value
gives_room_back size = step (Calls (OfExport stack_mover) (Number (pos size) ∷ []))

-- the methods of a view of memory that read and write an integer of 32 bits, or of 64
abbrev pub reading_method : (is_wide : Bool) → List ℕ
reading_method false = codes "getInt32"
reading_method true = codes "getBigInt64"

abbrev pub writing_method : (is_wide : Bool) → List ℕ
writing_method false = codes "setInt32"
writing_method true = codes "setBigInt64"

-- `view().getInt32(address + offset, true)`
abbrev pub loads : (view : List ℕ) → (offset : ℕ) → (is_wide : Bool) → (address : Value) → Act Value
loads view offset is_wide address trace answers =
    goes_on (step (Calls (Helper view) []) trace answers) (λ v.
    step (CallsOn v (reading_method is_wide) (sum_of address (Number (pos offset)) ∷ Truth true ∷ [])))

-- `view().setInt32(address + offset, value, true)`
abbrev pub stores : (view : List ℕ) → (offset : ℕ) → (is_wide : Bool) → (address stored : Value) → Act Value
stores view offset is_wide address stored trace answers =
    goes_on (step (Calls (Helper view) []) trace answers) (λ v.
    step (CallsOn v (writing_method is_wide) (sum_of address (Number (pos offset)) ∷ stored ∷ Truth true ∷ [])))

-- `helper(address, other, function)`, of the two newest operands
abbrev pub makes : (helper function : List ℕ) → List Value → Act Value
makes helper function stack trace answers =
    goes_on (step (Reads (Helper function)) trace answers) (λ f.
    step (Calls (Helper helper) (operands Null 2 stack (f ∷ []))))

-- `list.indexOf(v)`
abbrev pub index_of : (list : List ℕ) → Value → Act Value
index_of list v trace answers =
    goes_on (step (Reads (Helper list)) trace answers) (λ texts.
    step (CallsOn texts (codes "indexOf") (v ∷ [])))

-- `list[v]`
abbrev pub item_of : (list : List ℕ) → Value → Act Value
item_of list v trace answers =
    goes_on (step (Reads (Helper list)) trace answers) (λ texts.
    step (ReadsAt texts v))

-- what later steps know beside the stack: the parameters, and behind them the address of room, from the step on that takes it
abbrev pub known : {A : Type 0} → A → Step → (known stack : List A) → List A
known default (ReturnPointer size) before stack = before ++ top default stack ∷ []
known default other before stack = before

-- what a step does
abbrev pub act : Step → List Value → List Value → Act Left
act (Parameter n) args stack trace answers = pushes (item_at Null args n ∷ stack) trace answers
act Unchanged args stack trace answers = pushes (top Null stack ∷ below stack) trace answers
act (CallExport name n has_result) args stack trace answers =
    goes_on (step (Calls (OfExport name) (operands Null n stack [])) trace answers) (λ v.
    pushes (after_call has_result v (without n stack)))
act (CallImport adapter n has_result expression) args stack trace answers =
    goes_on (step (CallsAdapter adapter (operands Null n stack [])) trace answers) (λ v.
    pushes (after_call has_result v (without n stack)))
act ToUnsigned args stack trace answers = pushes (unsigned (top Null stack) ∷ below stack) trace answers
act IsNotZero args stack trace answers = pushes (is_not_zero (top Null stack) ∷ below stack) trace answers
act ToUnsigned64 args stack trace answers =
    goes_on (unsigned_64 (top Null stack) trace answers) (λ v.
    pushes (v ∷ below stack))
act (CallHelper helper n) args stack trace answers =
    goes_on (step (Calls (Helper helper) (operands Null n stack [])) trace answers) (λ v.
    pushes (v ∷ without n stack))
act IndexFromBorrow args stack trace answers =
    goes_on (step (Calls (Helper (codes "addBorrowedObject")) (top Null stack ∷ [])) trace answers) (λ v.
    Went (v ∷ below stack, gives_back ∷ []))
act (UnwrapResult helper) args stack trace answers =
    throws_if (is_true (top Null stack)) helper (top Null (below stack)) (below (below stack)) trace answers
act (PassToMemory helper exports optional) args stack trace answers =
    goes_on (address_of optional helper exports (top Null stack) trace answers) (λ address trace answers.
    goes_on (step (Reads (Helper (codes "WASM_VECTOR_LEN"))) trace answers) (λ count.
    pushes (count ∷ address ∷ below stack)))
act (DeferFree free align) args stack trace answers = Went (stack, frees free align stack ∷ []) trace answers
act (CopyOut helper) args stack trace answers =
    goes_on (copies helper stack trace answers) (λ v.
    pushes (v ∷ without 2 stack))
act (ReturnPointer size) args stack trace answers =
    goes_on (takes_room size trace answers) (λ v.
    Went (v ∷ stack, gives_room_back size ∷ []))
act (LoadReturn view offset is_wide) args stack trace answers =
    goes_on (loads view offset is_wide (last_of Null args) trace answers) (λ v.
    pushes (v ∷ stack))
act (StoreReturn view offset is_wide) args stack trace answers =
    goes_on (stores view offset is_wide (item_at Null args 0) (top Null stack) trace answers) (λ v.
    pushes (below stack))
act (MakeClosure helper function) args stack trace answers =
    goes_on (makes helper function stack trace answers) (λ v.
    pushes (v ∷ without 2 stack))
act (IndexOf list) args stack trace answers =
    goes_on (index_of list (top Null stack) trace answers) (λ v.
    pushes (v ∷ below stack))
act (ItemAt list) args stack trace answers =
    goes_on (item_of list (top Null stack) trace answers) (λ v.
    pushes (v ∷ below stack))

-- the helpers, the lists of string enums and the functions of closures that a step calls, reads or writes, by their names
abbrev pub helpers_of : Step → List (List ℕ)
helpers_of (CallHelper helper n) = helper ∷ []
helpers_of IndexFromBorrow = codes "addBorrowedObject" ∷ codes "heap" ∷ codes "stack_pointer" ∷ []
helpers_of (UnwrapResult helper) = helper ∷ []
helpers_of (PassToMemory helper exports false) = helper ∷ codes "WASM_VECTOR_LEN" ∷ []
helpers_of (PassToMemory helper exports true) = codes "isLikeNone" ∷ helper ∷ codes "WASM_VECTOR_LEN" ∷ []
helpers_of (CopyOut helper) = helper ∷ []
helpers_of (LoadReturn view offset is_wide) = view ∷ []
helpers_of (StoreReturn view offset is_wide) = view ∷ []
helpers_of (MakeClosure helper function) = helper ∷ function ∷ []
helpers_of (IndexOf list) = list ∷ []
helpers_of (ItemAt list) = list ∷ []
helpers_of other = []

-- ---- adapters

-- the newest operand is the result, where there is one
abbrev pub newest : List Value → Option Value
newest [] = None
newest (v ∷ stack) = Some v

-- a run and the cleanups after it, the newest first: each of them runs, and a throw of one replaces the outcome
abbrev pub cleans : List (Act Value) → Ran (Option Value) → Ran (Option Value)
cleans [] ran = ran
cleans (cleanup ∷ cleanups) ran = cleans cleanups (and_then_cleans ran cleanup)

-- a step, and what goes on from the stack and the cleanups that it leaves
abbrev pub after_act : Ran Left → List (Act Value) → (List Value → List (Act Value) → Act (Option Value))
    → Ran (Option Value)
after_act (Went left trace answers) cleanups next = next left.0 (left.1 ++ cleanups) trace answers
after_act (Threw v trace answers) cleanups next = cleans cleanups (Threw v trace answers)
after_act (Ended trace) cleanups next = Ended trace

-- what the steps do one after the other; the cleanups run at their end or at a throw
abbrev pub means : List Step → List Value → List Value → List (Act Value) → Act (Option Value)
means [] args stack cleanups trace answers = cleans cleanups (Went (newest stack) trace answers)
means (s ∷ steps) args stack cleanups trace answers = after_act (act s args stack trace answers) cleanups
    (λ left. means steps (known Null s args left) left)

-- the arguments as so many parameters see them: one that isn't given is `undefined`, and further ones aren't seen
abbrev pub seen : ℕ → List Value → List Value
seen zero args = []
seen (suc n) [] = Undefined ∷ seen n []
seen (suc n) (v ∷ args) = v ∷ seen n args

-- what an adapter of so many parameters does with these arguments, where the outside gives these answers: its trace,
-- and a value,
-- nothing or a throw
abbrev pub adapter_meaning : List Step → (count : ℕ) → List Value → List Answer → Ran (Option Value)
adapter_meaning steps count args answers = means steps (seen count args) [] [] [] answers
