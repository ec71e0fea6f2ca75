-- The steps of an adapter: its instructions, with what their ids name in the module and the description.
use Rattle.std.specs.Prelude.{ℕ, ◌==◌, Bool, true, false, if◌then◌else◌, List, [], ◌∷◌, ◌++◌, length, map, codes, Option, Some, None, option_map, option_and_then, slice_get, find}
use Rattle.std.specs.Fmt.{decimal}
use Rattle.std.specs.Ordering.{nat_cmp}
use Rattle.std.specs.declared.cmp.Ordering.{Ordering}
use Rattle.values.specs.Map.{look_up}
use Rattle.wasm_core.specs.types.FuncType.{FuncType}
use Rattle.wasm_core.specs.types.ValType.{ValType}
use Rattle.wasm_core.specs.types.ValType.TheVariants as types
use Rattle.wasm_core.specs.entries.Export.{Export}
use Rattle.wasm_core.specs.entries.ExportItem.{ExportItem}
use Rattle.wasm_core.specs.entries.ExportItem.TheVariants as items
use Rattle.wasm_core.specs.Contents.{Contents}
use Rattle.wasm_core.specs.ids.ExportId.{ExportId}
use Rattle.wasm_core.specs.ids.FuncId.{FuncId}
use Rattle.wasm_core.specs.ids.MemoryId.{MemoryId}
use Rattle.wasm_core.specs.ids.TableId.{TableId}
use Rattle.wasm_file.specs.contracts.entries.ExportItemOrd.TheImpl as by_kind
use Rattle.glue_shared.specs.declared.adapter.Adapter.{Adapter}
use Rattle.glue_shared.specs.declared.adapter.AdapterKind.{AdapterKind}
use Rattle.glue_shared.specs.declared.adapter.AdapterKind.TheVariants as kinds
use Rattle.glue_shared.specs.declared.adapter.AdapterJsImportKind.{AdapterJsImportKind}
use Rattle.glue_shared.specs.declared.adapter.VectorKind.{VectorKind}
use Rattle.glue_shared.specs.declared.adapter.VectorKind.TheVariants as vectors
use Rattle.glue_shared.specs.declared.adapter.Instruction.{Instruction}
use Rattle.glue_shared.specs.declared.adapter.Instruction.TheVariants as instr
use Rattle.glue_shared.specs.declared.import.AuxImport.{AuxImport}
use Rattle.glue_shared.specs.declared.description.Lowered.{Lowered}
use Rattle.glue_shared.specs.declared.name_map.NameMap.{NameMap}
use Rattle.glue_shared.specs.declared.settings.Settings.{Settings}
use Rattle.glue_shared.specs.Names.{has_number}
use Rattle.glue_imports.specs.declared.part.Expression.{Expression}
use Rattle.glue_imports.specs.Expressions.{expression}
use Rattle.glue_imports.specs.Given.{Given, given_item}
use Rattle.glue_steps.specs.declared.step.Step.{Step}
use Rattle.glue_steps.specs.declared.step.Step.TheVariants as steps

-- items of the module by their kinds, functions first, then tables, memories, globals and tags, and then by their places
abbrev pub item_order : ExportItem → ExportItem → Ordering
item_order = by_kind.ghosts.cmp

-- the entry at a place, where there is one
abbrev pub live : {A : Type 0} → Option (Option A) → Option A
live None = None
live (Some entry) = entry

abbrev pub entry_at : {A : Type 0} → List (Option A) → ℕ → Option A
entry_at xs i = live (slice_get xs i)

abbrev pub is_some_item : {A : Type 0} → List A → Bool
is_some_item [] = false
is_some_item (x ∷ xs) = true

-- the type of a function
abbrev pub type_of : Contents → ℕ → Option FuncType
type_of m func = option_and_then (λ f. entry_at m.types f.ty.0) (entry_at m.funcs func)

-- the call of a function of a type
abbrev pub typed_call : List ℕ → FuncType → Step
typed_call name ty = steps.CallExport name (length ty.params) (is_some_item ty.results)

-- the call of an export that is a function
abbrev pub call_of : Contents → List ℕ → ExportItem → Option Step
call_of m name (items.Func func) = option_map (typed_call name) (type_of m func.0)
call_of m name (items.Table table) = None
call_of m name (items.Memory memory) = None
call_of m name (items.Global global) = None
call_of m name (items.Tag tag) = None

abbrev pub export_step : Contents → ℕ → Option Step
export_step m id = option_and_then (λ (e : Export). call_of m e.name e.item) (entry_at m.exports id)

-- the call of an import adapter of this expression
abbrev pub expression_step : ℕ → Adapter → Expression → Step
expression_step id a e = steps.CallImport id (length a.args) (is_some_item a.results) e

-- the last argument of the import adapter is spread
abbrev pub is_spread : Lowered → ℕ → Bool
is_spread l id = has_number id l.aux.imports_with_variadic

-- a name, or the empty one where there is none
abbrev pub or_empty : Option (List ℕ) → List ℕ
or_empty None = []
or_empty (Some name) = name

-- the name of the export that gives an item, or the empty one where there is no item, or none was drawn
abbrev pub export_named : NameMap → Option ExportItem → List ℕ
export_named names None = []
export_named names (Some item) = or_empty (look_up item_order names.wasm item)

-- what is given of the module for an import, where these names are drawn
abbrev pub given_of : NameMap → Lowered → AuxImport → Given
given_of names l what = record { export = export_named names (given_item l what); slots = l.aux.static_slots }

-- the call of an import adapter that is called in this way, by what it is described as, where these names are drawn
abbrev pub import_step_of : Settings → NameMap → Lowered → ℕ → Adapter → AdapterJsImportKind → AuxImport → Option Step
import_step_of s names l id a call what =
    option_map (expression_step id a) (expression s names (given_of names l what) call (is_spread l id) (is_some_item a.results) what)

-- what the description says of an import adapter
abbrev pub described_import : List (ℕ × AuxImport) → ℕ → Option AuxImport
described_import entries id = option_map (λ (e : ℕ × AuxImport). e.1) (find (λ (e : ℕ × AuxImport). e.0 == id) entries)

abbrev pub called_import : Settings → NameMap → Lowered → ℕ → Adapter → AdapterKind → Option Step
called_import s names l id a (kinds.Import call) = option_and_then (import_step_of s names l id a call) (described_import l.aux.imports id)
called_import s names l id a (kinds.Local code) = None

abbrev pub import_step : Settings → NameMap → Lowered → ℕ → Option Step
import_step s names l id = option_and_then (λ (a : Adapter). called_import s names l id a a.kind) (look_up nat_cmp l.wit.adapters id)

-- the helper that takes or gives handles: one of the object table; where references stand in a table of the module, the other one, with the place
-- of that table
abbrev pub handle_helper : Settings → Lowered → (of_objects of_references : List ℕ) → Option (List ℕ)
handle_helper s l of_objects of_references =
    if s.externref then option_map (λ (table : TableId). of_references ++ decimal table.0) l.aux.externref_table else Some of_objects

-- its call, with a handle or an object
abbrev pub handle_call : Settings → Lowered → (of_objects of_references : List ℕ) → Option Step
handle_call s l of_objects of_references =
    option_map (λ (helper : List ℕ). steps.CallHelper helper 1) (handle_helper s l of_objects of_references)

-- an object is lent to the object table alone
abbrev pub borrowing : Settings → Option Step
borrowing s = if s.externref then None else Some steps.IndexFromBorrow

-- the test of a result, and the throw of what its handle stands for
abbrev pub unwrapping : Settings → Lowered → Option Step
unwrapping s l = option_map steps.UnwrapResult (handle_helper s l (codes "takeObject") (codes "takeFromExternrefTable"))

-- the step that an instruction of handles is
abbrev pub handle_step : Settings → Lowered → Instruction → Option Step
handle_step s l instr.IndexFromOwned = handle_call s l (codes "addHeapObject") (codes "addToExternrefTable")
handle_step s l instr.IndexFromBorrow = borrowing s
handle_step s l instr.TakeIndex = handle_call s l (codes "takeObject") (codes "takeFromExternrefTable")
handle_step s l instr.GetIndex = handle_call s l (codes "getObject") (codes "getFromExternrefTable")
handle_step s l instr.UnwrapResult = unwrapping s l
handle_step s l other = None

-- what the names of helpers call the elements of vectors
abbrev pub element_letters : VectorKind → List ℕ
element_letters vectors.I8 = codes "I8"
element_letters vectors.U8 = codes "U8"
element_letters vectors.I16 = codes "I16"
element_letters vectors.U16 = codes "U16"
element_letters vectors.I32 = codes "I32"
element_letters vectors.U32 = codes "U32"
element_letters vectors.I64 = codes "I64"
element_letters vectors.U64 = codes "U64"
element_letters vectors.Value = codes "JsValue"

-- and what they call them where a sign doesn't matter
abbrev pub width_letters : VectorKind → List ℕ
width_letters vectors.I8 = codes "8"
width_letters vectors.U8 = codes "8"
width_letters vectors.I16 = codes "16"
width_letters vectors.U16 = codes "16"
width_letters vectors.I32 = codes "32"
width_letters vectors.U32 = codes "32"
width_letters vectors.I64 = codes "64"
width_letters vectors.U64 = codes "64"
width_letters vectors.Value = codes "JsValue"

-- the helper that gives a vector that stands in a memory, and the one that writes a vector there
abbrev pub reading_helper : VectorKind → MemoryId → List ℕ
reading_helper kind memory = codes "getArray" ++ (element_letters kind ++ (codes "FromWasm" ++ decimal memory.0))

abbrev pub writing_helper : VectorKind → MemoryId → List ℕ
writing_helper kind memory = codes "passArray" ++ (width_letters kind ++ (codes "ToWasm" ++ decimal memory.0))

-- a vector is copied out of memory, and one of any values is made by the helper
abbrev pub vector_read : VectorKind → MemoryId → Step
vector_read vectors.Value memory = steps.CallHelper (reading_helper vectors.Value memory) 2
vector_read kind memory = steps.CopyOut (reading_helper kind memory)

-- the names of the exports that give functions
abbrev pub functions_named : NameMap → List FuncId → List (List ℕ)
functions_named names functions = map (λ (f : FuncId). export_named names (Some (items.Func f))) functions

-- the id, if there is one
abbrev pub listed_id : Option FuncId → List FuncId
listed_id None = []
listed_id (Some f) = f ∷ []

-- a string is written to memory, by a helper that is handed the functions that allocate
abbrev pub string_written : NameMap → (optional : Bool) → (malloc : FuncId) → Option FuncId → MemoryId → Step
string_written names optional malloc realloc memory =
    steps.PassToMemory (codes "passStringToWasm" ++ decimal memory.0) (functions_named names (malloc ∷ listed_id realloc)) optional

-- a vector is written there
abbrev pub vector_written : NameMap → VectorKind → (malloc : FuncId) → MemoryId → Step
vector_written names kind malloc memory =
    steps.PassToMemory (writing_helper kind memory) (functions_named names (malloc ∷ [])) false

-- the helper that gives a view of a memory
abbrev pub view_helper : MemoryId → List ℕ
view_helper memory = codes "getDataViewMemory" ++ decimal memory.0

-- a type is that of integers of 64 bits
abbrev pub is_wide : ValType → Bool
is_wide types.I64 = true
is_wide other = false

-- a result is read from the room that was taken for it, and one is written to the room that a caller took
abbrev pub result_read : (offset : ℕ) → ValType → MemoryId → Step
result_read offset ty memory = steps.LoadReturn (view_helper memory) offset (is_wide ty)

abbrev pub result_written : (offset : ℕ) → ValType → MemoryId → Step
result_written offset ty memory = steps.StoreReturn (view_helper memory) offset (is_wide ty)

-- the list of the texts of a string enum
abbrev pub list_named : (enum : List ℕ) → List ℕ
list_named enum = codes "__wbindgen_enum_" ++ enum

-- the export after which the function of a closure's adapter is named: the first that is given for the adapter
abbrev pub callback_of : List (ExportId × ℕ) → ℕ → Option ExportId
callback_of entries id = option_map (λ (e : ExportId × ℕ). e.0) (find (λ (e : ExportId × ℕ). e.1 == id) entries)

-- the name of the export at a place
abbrev pub name_at_place : Contents → ExportId → Option (List ℕ)
name_at_place m id = option_map (λ (e : Export). e.name) (entry_at m.exports id.0)

-- the name of the function of a closure's adapter: that of this export
abbrev pub callback_name : Lowered → ℕ → Option (List ℕ)
callback_name l id = option_and_then (name_at_place l.«module») (callback_of l.wit.exports id)

-- the helper that makes closures, those that change what they hold or not
abbrev pub closure_helper : (mutable : Bool) → List ℕ
closure_helper true = codes "makeMutClosure"
closure_helper false = codes "makeClosure"

-- a closure is made, with the function of its adapter
abbrev pub closure_made : Lowered → ℕ → (mutable : Bool) → Option Step
closure_made l id mutable = option_map (steps.MakeClosure (closure_helper mutable)) (callback_name l id)

-- the step that an instruction is which passes values through memory or takes room there, or else passes one by a handle
abbrev pub passing_step : Settings → NameMap → Lowered → Instruction → Option Step
passing_step s names l (instr.StringToMemory malloc realloc memory) = Some (string_written names false malloc realloc memory)
passing_step s names l (instr.OptionStringToMemory malloc realloc memory) = Some (string_written names true malloc realloc memory)
passing_step s names l (instr.MemoryToString memory) = Some (steps.CallHelper (codes "getStringFromWasm" ++ decimal memory.0) 2)
passing_step s names l (instr.DeferFree free align) = Some (steps.DeferFree (export_named names (Some (items.Func free))) align)
passing_step s names l (instr.VecFromWasm kind memory) = Some (vector_read kind memory)
passing_step s names l (instr.VecToWasm kind malloc memory) = Some (vector_written names kind malloc memory)
passing_step s names l (instr.Retptr size) = Some (steps.ReturnPointer size)
passing_step s names l (instr.LoadRetptr offset ty memory) = Some (result_read offset ty memory)
passing_step s names l (instr.StoreRetptr offset ty memory) = Some (result_written offset ty memory)
passing_step s names l other = handle_step s l other

-- the step that an instruction is, where it is built
abbrev pub step_of : Settings → NameMap → Lowered → Instruction → Option Step
step_of s names l (instr.ArgGet n) = Some (steps.Parameter n)
step_of s names l instr.Int32ToWasm = Some steps.Unchanged
step_of s names l (instr.WasmToInt32 false) = Some steps.Unchanged
step_of s names l (instr.WasmToInt32 true) = Some steps.ToUnsigned
step_of s names l (instr.CallExport id) = export_step l.module id.0
step_of s names l (instr.CallAdapter id) = import_step s names l id
step_of s names l instr.Int64ToWasm = Some steps.Unchanged
step_of s names l instr.I32FromBool = Some steps.Unchanged
step_of s names l (instr.WasmToInt64 false) = Some steps.Unchanged
step_of s names l (instr.WasmToInt64 true) = Some steps.ToUnsigned64
step_of s names l instr.BoolFromI32 = Some steps.IsNotZero
step_of s names l (instr.Closure id mutable) = closure_made l id mutable
step_of s names l (instr.EnumIndex name) = Some (steps.IndexOf (list_named name))
step_of s names l (instr.EnumText name) = Some (steps.ItemAt (list_named name))
step_of s names l other = passing_step s names l other

abbrev pub with_step : Option Step → Option (List Step) → Option (List Step)
with_step None rest = None
with_step (Some step) None = None
with_step (Some step) (Some rest) = Some (step ∷ rest)

abbrev pub steps_of : Settings → NameMap → Lowered → List Instruction → Option (List Step)
steps_of s names l [] = Some []
steps_of s names l (instruction ∷ code) = with_step (step_of s names l instruction) (steps_of s names l code)

abbrev pub code_steps : Settings → NameMap → Lowered → AdapterKind → Option (List Step)
code_steps s names l (kinds.Local code) = steps_of s names l code
code_steps s names l (kinds.Import call) = None

-- the steps of an adapter, where it has code, each of its instructions is built, and these names are drawn
abbrev pub adapter_steps : Settings → NameMap → Lowered → ℕ → Option (List Step)
adapter_steps s names l id = option_and_then (λ (a : Adapter). code_steps s names l a.kind) (look_up nat_cmp l.wit.adapters id)

-- ---- helpers

-- the helper that an instruction calls to pass a value
abbrev pub helper_of : Settings → Lowered → Instruction → Option (List ℕ)
helper_of s l instr.IndexFromOwned = handle_helper s l (codes "addHeapObject") (codes "addToExternrefTable")
helper_of s l instr.TakeIndex = handle_helper s l (codes "takeObject") (codes "takeFromExternrefTable")
helper_of s l instr.GetIndex = handle_helper s l (codes "getObject") (codes "getFromExternrefTable")
helper_of s l instr.UnwrapResult = handle_helper s l (codes "takeObject") (codes "takeFromExternrefTable")
helper_of s l (instr.StringToMemory malloc realloc memory) = Some (codes "passStringToWasm" ++ decimal memory.0)
helper_of s l (instr.OptionStringToMemory malloc realloc memory) = Some (codes "passStringToWasm" ++ decimal memory.0)
helper_of s l (instr.MemoryToString memory) = Some (codes "getStringFromWasm" ++ decimal memory.0)
helper_of s l (instr.VecFromWasm kind memory) = Some (reading_helper kind memory)
helper_of s l (instr.VecToWasm kind malloc memory) = Some (writing_helper kind memory)
helper_of s l (instr.LoadRetptr offset ty memory) = Some (view_helper memory)
helper_of s l (instr.StoreRetptr offset ty memory) = Some (view_helper memory)
helper_of s l (instr.Closure id mutable) = Some (closure_helper mutable)
helper_of s l other = None
