-- The object table, as statements: its three variables, and its functions' bodies.
use Rattle.std.specs.Prelude.{ℕ, pos, Bool, true, false, List, [], ◌∷◌, ◌++◌, Some, None, codes}
use Rattle.glue_tree.specs.declared.tree.BinaryOperator.TheVariants.{Add, Less, Equal, StrictEqual, StrictUnequal}
use Rattle.glue_tree.specs.declared.tree.Constant.TheVariants as constant
use Rattle.glue_tree.specs.declared.tree.UnaryOperator.TheVariants.{Decrement, TypeOf}
use Rattle.glue_tree.specs.Term.{Term, Lit, Chars, Const, Var, Name, Outside, Field, Index, Apply, Make, One, Two, Line, Bind, Put, Run, Short, Fail, Leave, Lines}
use Rattle.glue_tree.specs.Plainly.{terms_of, lines_of}
use Rattle.glue_heap.specs.declared.key.HeapKey.{HeapKey}
use Rattle.glue_heap.specs.declared.key.HeapKey.TheVariants as key

-- ---- expressions

-- the slots below this one are for objects that are lent, but the first
abbrev pub lent_slots : Term
lent_slots = Lit (pos 1024)

-- the first slot behind those and the four constants
abbrev pub first_owned : Term
first_owned = Lit (pos 1028)

-- `heap`
abbrev pub heap : Term
heap = Name (codes "heap")

-- `heap_next`
abbrev pub heap_next : Term
heap_next = Name (codes "heap_next")

-- `stack_pointer`
abbrev pub stack_pointer : Term
stack_pointer = Name (codes "stack_pointer")

-- `heap.length`
abbrev pub heap_length : Term
heap_length = Field heap (codes "length")

-- `heap[place]`
abbrev pub heap_slot : Term → Term
heap_slot place = Index heap place

-- `obj`
abbrev pub obj : Term
obj = Var (codes "obj")

-- `idx`
abbrev pub idx : Term
idx = Var (codes "idx")

-- `undefined`
abbrev pub undefined : Term
undefined = Outside (codes "undefined")

-- `name(idx)`
abbrev pub call_with_idx : List ℕ → Term
call_with_idx name = Apply (Name name) (terms_of (idx ∷ []))

-- ---- statements

-- `heap.push(a, b);`
abbrev pub push_line : List Term → Line
push_line values = Run (Apply (Field heap (codes "push")) (terms_of values))

-- `throw new Error(message);`
abbrev pub throw_error : List ℕ → Line
throw_error message = Fail (Make (Outside (codes "Error")) (terms_of (Chars message ∷ [])))

-- ---- variables: the first statement is the variable's value

-- the constants: `undefined`, `null`, `true` and `false`
abbrev pub constants : List Term
constants = undefined ∷ Const constant.Null ∷ Const constant.True ∷ Const constant.False ∷ []

-- `heap = new Array(1024).fill(undefined);`
-- `heap.push(undefined, null, true, false);`
abbrev pub heap_lines : List Line
heap_lines =
    Put heap (Apply (Field (Make (Outside (codes "Array")) (terms_of (lent_slots ∷ []))) (codes "fill")) (terms_of (undefined ∷ [])))
    ∷ push_line constants
    ∷ []

-- `heap_next = heap.length;`
abbrev pub heap_next_lines : List Line
heap_next_lines = Put heap_next heap_length ∷ []

-- `stack_pointer = 1024;`
abbrev pub stack_pointer_lines : List Line
stack_pointer_lines = Put stack_pointer lent_slots ∷ []

-- ---- functions

-- where no slot is free, one more: `if (heap_next === heap.length) heap.push(heap.length + 1);`
abbrev pub one_slot_more : Line
one_slot_more = Short (Two StrictEqual heap_next heap_length) (push_line (Two Add heap_length (Lit (pos 1)) ∷ []))

-- `if (typeof heap_next !== "number") throw new Error("corrupt heap");`
abbrev pub chain_test : Line
chain_test = Short (Two StrictUnequal (One TypeOf heap_next) (Chars (codes "number"))) (throw_error (codes "corrupt heap"))

-- that test under `debug`
abbrev pub chain_tests : Bool → List Line
chain_tests true = chain_test ∷ []
chain_tests false = []

-- (one slot more)
-- `const idx = heap_next;`
-- `heap_next = heap[idx];`
-- (the test under `debug`)
-- `heap[idx] = obj;`
-- `return idx;`
abbrev pub add_heap_object_lines : Bool → List Line
add_heap_object_lines debug =
    one_slot_more
    ∷ Bind (codes "idx") heap_next
    ∷ Put heap_next (heap_slot idx)
    ∷ chain_tests debug
    ++ Put (heap_slot idx) obj
    ∷ Leave (Some idx)
    ∷ []

-- `if (stack_pointer == 1) throw new Error("out of js stack");`
abbrev pub full_test : Line
full_test = Short (Two Equal stack_pointer (Lit (pos 1))) (throw_error (codes "out of js stack"))

-- (that test)
-- `heap[--stack_pointer] = obj;`
-- `return stack_pointer;`
abbrev pub borrowed_objects_lines : List Line
borrowed_objects_lines =
    full_test
    ∷ Put (heap_slot (One Decrement stack_pointer)) obj
    ∷ Leave (Some stack_pointer)
    ∷ []

-- `if (idx < 1028) return;`
abbrev pub constant_test : Line
constant_test = Short (Two Less idx first_owned) (Leave None)

-- (that test)
-- `heap[idx] = heap_next;`
-- `heap_next = idx;`
abbrev pub drop_ref_lines : List Line
drop_ref_lines =
    constant_test
    ∷ Put (heap_slot idx) heap_next
    ∷ Put heap_next idx
    ∷ []

-- `return heap[idx];`
abbrev pub get_object_lines : List Line
get_object_lines = Leave (Some (heap_slot idx)) ∷ []

-- `const ret = getObject(idx);`
-- `dropObject(idx);`
-- `return ret;`
abbrev pub take_object_lines : List Line
take_object_lines =
    Bind (codes "ret") (call_with_idx (codes "getObject"))
    ∷ Run (call_with_idx (codes "dropObject"))
    ∷ Leave (Some (Var (codes "ret")))
    ∷ []

-- the statements of a part, with the tests of `debug` or without them
abbrev pub heap_tree : HeapKey → Bool → Lines
heap_tree key.Heap debug = lines_of heap_lines
heap_tree key.HeapNext debug = lines_of heap_next_lines
heap_tree key.StackPointer debug = lines_of stack_pointer_lines
heap_tree key.AddHeapObject debug = lines_of (add_heap_object_lines debug)
heap_tree key.BorrowedObjects debug = lines_of borrowed_objects_lines
heap_tree key.DropRef debug = lines_of drop_ref_lines
heap_tree key.GetObject debug = lines_of get_object_lines
heap_tree key.TakeObject debug = lines_of take_object_lines
