-- The parts of the object table: the texts of their keys, and the names that they declare in the glue file.
use Rattle.std.specs.Prelude.{ℕ, List, Option, Some, None, codes, if◌then◌else◌}
use Rattle.std.specs.Str.{bytes_eq}
use Rattle.glue_heap.specs.declared.key.HeapKey.{HeapKey}
use Rattle.glue_heap.specs.declared.key.HeapKey.TheVariants as key

-- a key as a text
abbrev pub heap_key_text : HeapKey → List ℕ
heap_key_text key.Heap = codes "heap"
heap_key_text key.HeapNext = codes "heap_next"
heap_key_text key.StackPointer = codes "stack_pointer"
heap_key_text key.AddHeapObject = codes "add_heap_object"
heap_key_text key.BorrowedObjects = codes "borrowed_objects"
heap_key_text key.DropRef = codes "drop_ref"
heap_key_text key.GetObject = codes "get_object"
heap_key_text key.TakeObject = codes "take_object"

-- the key of a text, if it is one
abbrev pub heap_key_of : List ℕ → Option HeapKey
heap_key_of text =
    if bytes_eq text (codes "heap") then Some key.Heap
    else if bytes_eq text (codes "heap_next") then Some key.HeapNext
    else if bytes_eq text (codes "stack_pointer") then Some key.StackPointer
    else if bytes_eq text (codes "add_heap_object") then Some key.AddHeapObject
    else if bytes_eq text (codes "borrowed_objects") then Some key.BorrowedObjects
    else if bytes_eq text (codes "drop_ref") then Some key.DropRef
    else if bytes_eq text (codes "get_object") then Some key.GetObject
    else if bytes_eq text (codes "take_object") then Some key.TakeObject
    else None

-- the name that the part declares
abbrev pub heap_name : HeapKey → List ℕ
heap_name key.Heap = codes "heap"
heap_name key.HeapNext = codes "heap_next"
heap_name key.StackPointer = codes "stack_pointer"
heap_name key.AddHeapObject = codes "addHeapObject"
heap_name key.BorrowedObjects = codes "addBorrowedObject"
heap_name key.DropRef = codes "dropObject"
heap_name key.GetObject = codes "getObject"
heap_name key.TakeObject = codes "takeObject"

-- the parameter of the part's function; a variable has none
abbrev pub heap_parameter : HeapKey → Option (List ℕ)
heap_parameter key.Heap = None
heap_parameter key.HeapNext = None
heap_parameter key.StackPointer = None
heap_parameter key.AddHeapObject = Some (codes "obj")
heap_parameter key.BorrowedObjects = Some (codes "obj")
heap_parameter key.DropRef = Some (codes "idx")
heap_parameter key.GetObject = Some (codes "idx")
heap_parameter key.TakeObject = Some (codes "idx")
