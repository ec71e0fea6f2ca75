-- The kinds of values that an adapter's code keeps on its stack, and the room for results that it takes.
use Rattle.std.specs.Prelude.{ℕ, ◌-◌, nat_le, Bool, true, false, not, ◌&&◌, ◌||◌, if◌then◌else◌, List, [], ◌∷◌, ◌++◌, length, map, take, drop, slice_get, Option, Some, None, option_map, option_and_then}
use Rattle.std.specs.List.{list_all}
use Rattle.std.specs.Ordering.{nat_cmp}
use Rattle.values.specs.Map.{look_up}
use Rattle.wasm_core.specs.types.FuncType.{FuncType}
use Rattle.wasm_core.specs.types.ValType.{ValType}
use Rattle.wasm_core.specs.types.ValType.TheVariants as types
use Rattle.wasm_core.specs.entries.Export.{Export}
use Rattle.wasm_core.specs.entries.ExportItem.{ExportItem}
use Rattle.wasm_core.specs.entries.ExportItem.TheVariants as items
use Rattle.wasm_core.specs.Contents.{Contents}
use Rattle.glue_shared.specs.declared.adapter.Adapter.{Adapter}
use Rattle.glue_shared.specs.declared.adapter.AdapterKind.{AdapterKind}
use Rattle.glue_shared.specs.declared.adapter.AdapterKind.TheVariants as kinds
use Rattle.glue_shared.specs.declared.adapter.AdapterType.{AdapterType}
use Rattle.glue_shared.specs.declared.adapter.AdapterType.TheVariants as adapter_types
use Rattle.glue_shared.specs.declared.adapter.Instruction.{Instruction}
use Rattle.glue_shared.specs.declared.adapter.Instruction.TheVariants as instr
use Rattle.glue_shared.specs.declared.description.Lowered.{Lowered}
use Rattle.glue_shared.specs.Names.{has_number, is_one_of}
use Rattle.glue_shared.specs.Roots.{instruction_items, is_live_item}
use Rattle.glue_steps.specs.Resolving.{entry_at, type_of}
use Rattle.glue_steps.specs.Room.{is_room}
use Rattle.glue_adapters.specs.declared.environment.Environment.{Environment}
use Rattle.glue_adapters.specs.declared.kind.Kind.{Kind}
use Rattle.glue_adapters.specs.declared.kind.Kind.TheVariants as kind
use Rattle.glue_adapters.specs.declared.stack.Effect.{Effect}

-- ---- stacks, the top last

-- one kind
abbrev pub same_kind : Kind → Kind → Bool
same_kind kind.I32 kind.I32 = true
same_kind kind.I64 kind.I64 = true
same_kind kind.Js kind.Js = true
same_kind a b = false

-- the same kinds in the same order
abbrev pub same_kinds : List Kind → List Kind → Bool
same_kinds [] [] = true
same_kinds [] (y ∷ ys) = false
same_kinds (x ∷ xs) [] = false
same_kinds (x ∷ xs) (y ∷ ys) = same_kind x y && same_kinds xs ys

-- the stack once the kinds that it ends in were popped and others pushed; none where it ends in others
abbrev pub after : Effect → List Kind → Option (List Kind)
after effect stack =
    let depth = length stack - length effect.pops in
    if same_kinds (drop depth stack) effect.pops then Some (take depth stack ++ effect.pushes) else None

-- ---- the kinds of types

-- the kind of a WebAssembly type, where JavaScript can pass it
abbrev pub kind_of : ValType → Option Kind
kind_of types.I32 = Some kind.I32
kind_of types.I64 = Some kind.I64
kind_of types.ExternRef = Some kind.Js
kind_of other = None

-- a kind before others, where there are all of them
abbrev pub with_kind : Option Kind → Option (List Kind) → Option (List Kind)
with_kind None kinds = None
with_kind (Some k) kinds = option_map (λ ks. k ∷ ks) kinds

-- the kind of a result that is passed in room
abbrev pub number_kind : ValType → Option Kind
number_kind types.I32 = Some kind.I32
number_kind types.I64 = Some kind.I64
number_kind other = None

-- the kinds of WebAssembly types, where JavaScript can pass each
abbrev pub kinds_of : List ValType → Option (List Kind)
kinds_of [] = Some []
kinds_of (ty ∷ tys) = with_kind (kind_of ty) (kinds_of tys)

-- the kind that an import adapter takes for an argument of this type
abbrev pub argument_kind : AdapterType → Kind
argument_kind adapter_types.I32 = kind.I32
argument_kind adapter_types.I64 = kind.I64
argument_kind other = kind.Js

-- a JavaScript value for each of the types
abbrev pub js_kinds : List AdapterType → List Kind
js_kinds tys = map (λ ty. kind.Js) tys

-- of a closure's adapter: the two numbers that a closure holds, as far as there are as many, and a JavaScript value for each of the others
abbrev pub closure_kinds : List AdapterType → List Kind
closure_kinds tys = map (λ ty. kind.I32) (take 2 tys) ++ js_kinds (drop 2 tys)

-- ---- what is called

-- the type of a function that is exported as this item
abbrev pub item_type : Contents → ExportItem → Option FuncType
item_type m (items.Func func) = type_of m func.0
item_type m other = None

-- the type of the function that is exported at a place
abbrev pub export_type : Contents → ℕ → Option FuncType
export_type m id = option_and_then (λ (e : Export). item_type m e.item) (entry_at m.exports id)

-- ---- the table of instructions

-- these are popped, and those are pushed
abbrev pub effect_of : List Kind → List Kind → Effect
effect_of pops pushes = record { pops = pops; pushes = pushes }

-- a call pops the parameters and pushes the result, of which there is at most one
abbrev pub call_effect : FuncType → Option Effect
call_effect ty =
    if nat_le (length ty.results) 1
    then option_and_then (λ pops. option_map (λ pushes. effect_of pops pushes) (kinds_of ty.results)) (kinds_of ty.params)
    else None

-- one JavaScript value, where an adapter has results
abbrev pub answer_kinds : List AdapterType → List Kind
answer_kinds [] = []
answer_kinds (ty ∷ tys) = kind.Js ∷ []

-- a call of an import adapter pops its arguments and pushes its answer, which is one value however many results it has
abbrev pub adapter_effect : Adapter → Effect
adapter_effect a = effect_of (map argument_kind a.args) (answer_kinds a.results)

-- what the ids of an instruction name is there
abbrev pub names_live : Lowered → Instruction → Bool
names_live l i = list_all (is_live_item l.«module») (instruction_items i)

-- a result is read from the room that was taken for it
abbrev pub loaded : ValType → Option Effect
loaded ty = option_map (λ k. effect_of [] (k ∷ [])) (number_kind ty)

-- the first parameter is an address
abbrev pub is_addressed : (params : List Kind) → Bool
is_addressed [] = false
is_addressed (k ∷ params) = same_kind k kind.I32

-- one is written to the room that a caller took, whose address is the first parameter
abbrev pub stored : (params : List Kind) → ValType → Option Effect
stored params ty = if is_addressed params then option_map (λ k. effect_of (k ∷ []) []) (number_kind ty) else None

-- what passes through memory: a string or a vector for its address and its length, or the other way, and results in room; what is freed in the
-- end stays
abbrev pub memory_effect : (params : List Kind) → Instruction → Option Effect
memory_effect params (instr.StringToMemory malloc realloc memory) = Some (effect_of (kind.Js ∷ []) (kind.I32 ∷ kind.I32 ∷ []))
memory_effect params (instr.OptionStringToMemory malloc realloc memory) = Some (effect_of (kind.Js ∷ []) (kind.I32 ∷ kind.I32 ∷ []))
memory_effect params (instr.VecToWasm element malloc memory) = Some (effect_of (kind.Js ∷ []) (kind.I32 ∷ kind.I32 ∷ []))
memory_effect params (instr.MemoryToString memory) = Some (effect_of (kind.I32 ∷ kind.I32 ∷ []) (kind.Js ∷ []))
memory_effect params (instr.VecFromWasm element memory) = Some (effect_of (kind.I32 ∷ kind.I32 ∷ []) (kind.Js ∷ []))
memory_effect params (instr.DeferFree free align) = Some (effect_of (kind.I32 ∷ kind.I32 ∷ []) (kind.I32 ∷ kind.I32 ∷ []))
memory_effect params (instr.LoadRetptr offset ty memory) = loaded ty
memory_effect params (instr.StoreRetptr offset ty memory) = stored params ty
memory_effect params other = None

-- the names of the string enums that are described
abbrev pub enum_names : Lowered → List (List ℕ)
enum_names l = map (λ e. e.name) l.aux.string_enums

-- a text of a string enum is passed for its place, or the other way, where the enum is one of these
abbrev pub enum_effect : (enums : List (List ℕ)) → (name : List ℕ) → (popped pushed : Kind) → Option Effect
enum_effect enums name popped pushed = if is_one_of enums name then Some (effect_of (popped ∷ []) (pushed ∷ [])) else None

-- an adapter of this kind, with these parameters, has code, and takes the two numbers that a closure holds
abbrev pub takes_numbers : AdapterKind → (args : List AdapterType) → Bool
takes_numbers (kinds.Local code) args = nat_le 2 (length args)
takes_numbers (kinds.Import call) args = false

-- an adapter that can be called by a closure
abbrev pub is_callback : Option Adapter → Bool
is_callback None = false
is_callback (Some a) = takes_numbers a.kind a.args

-- a closure is made of the two numbers that it holds, where its adapter is one of these and can be called by a closure
abbrev pub closure_effect : Lowered → (closures : List ℕ) → (id : ℕ) → Option Effect
closure_effect l closures id =
    if has_number id closures && is_callback (look_up nat_cmp l.wit.adapters id)
    then Some (effect_of (kind.I32 ∷ kind.I32 ∷ []) (kind.Js ∷ []))
    else None

-- What an instruction pops and pushes in an adapter whose parameters are of these kinds. None where
-- * it takes a parameter that the adapter hasn't;
-- * it calls an export that isn't there or is no function, or a function with several results or with a type that JavaScript can't pass;
-- * it calls an adapter that isn't there;
-- * it names a function or a memory that isn't there;
-- * it reads or writes a result in room that is no integer, or writes one where the first parameter is no address;
-- * it names a string enum that isn't described;
-- * it makes a closure of an adapter that closures don't call, that has no code, or that has fewer than two parameters;
-- * nothing carries it out.
unfoldable pub effect : Lowered → Environment → (params : List Kind) → Instruction → Option Effect
effect l environment params (instr.ArgGet n) = option_map (λ k. effect_of [] (k ∷ [])) (slice_get params n)
effect l environment params instr.Int32ToWasm = Some (effect_of (kind.Js ∷ []) (kind.I32 ∷ []))
effect l environment params instr.Int64ToWasm = Some (effect_of (kind.Js ∷ []) (kind.I64 ∷ []))
effect l environment params instr.I32FromBool = Some (effect_of (kind.Js ∷ []) (kind.I32 ∷ []))
effect l environment params (instr.WasmToInt32 unsigned) = Some (effect_of (kind.I32 ∷ []) (kind.Js ∷ []))
effect l environment params (instr.WasmToInt64 unsigned) = Some (effect_of (kind.I64 ∷ []) (kind.Js ∷ []))
effect l environment params instr.BoolFromI32 = Some (effect_of (kind.I32 ∷ []) (kind.Js ∷ []))
effect l environment params (instr.CallExport id) = option_and_then call_effect (export_type l.«module» id.0)
effect l environment params (instr.CallAdapter id) = option_map adapter_effect (look_up nat_cmp l.wit.adapters id)
effect l environment params instr.IndexFromOwned = Some (effect_of (kind.Js ∷ []) (kind.I32 ∷ []))
effect l environment params instr.IndexFromBorrow = Some (effect_of (kind.Js ∷ []) (kind.I32 ∷ []))
effect l environment params instr.TakeIndex = Some (effect_of (kind.I32 ∷ []) (kind.Js ∷ []))
effect l environment params instr.GetIndex = Some (effect_of (kind.I32 ∷ []) (kind.Js ∷ []))
effect l environment params (instr.ClassIntoPtr class) = Some (effect_of (kind.Js ∷ []) (kind.I32 ∷ []))
effect l environment params (instr.ClassPtr class) = Some (effect_of (kind.Js ∷ []) (kind.I32 ∷ []))
effect l environment params (instr.ClassFromPtr class) = Some (effect_of (kind.I32 ∷ []) (kind.Js ∷ []))
effect l environment params instr.UnwrapResult = Some (effect_of (kind.I32 ∷ kind.I32 ∷ []) [])
effect l environment params (instr.Retptr size) = Some (effect_of [] (kind.I32 ∷ []))
effect l environment params (instr.EnumIndex name) = enum_effect environment.enums name kind.Js kind.I32
effect l environment params (instr.EnumText name) = enum_effect environment.enums name kind.I32 kind.Js
effect l environment params (instr.Closure id mutable) = closure_effect l environment.closures id
effect l environment params other = if names_live l other then memory_effect params other else None

-- ---- the whole code

-- the stack after a code that begins with this one
abbrev pub stack_after : (Instruction → Option Effect) → List Kind → List Instruction → Option (List Kind)
stack_after effects stack [] = Some stack
stack_after effects stack (i ∷ code) = option_and_then (λ next. stack_after effects next code) (option_and_then (λ e. after e stack) (effects i))

-- the stack holds these in the end
abbrev pub leaves : List Kind → Option (List Kind) → Bool
leaves results None = false
leaves results (Some stack) = same_kinds stack results

-- the stack never lacks a value nor has another kind, and holds the results in the end
abbrev pub keeps_stack : Lowered → Environment → (params results : List Kind) → List Instruction → Bool
keeps_stack l environment params results code = leaves results (stack_after (effect l environment params) [] code)

-- an instruction that takes room stands where none was taken, and one that reads a result from room where some was; `taken`: whether some was
abbrev pub fits_room : (taken : Bool) → Instruction → Bool
fits_room taken (instr.Retptr size) = not taken
fits_room taken (instr.LoadRetptr offset ty memory) = taken
fits_room taken other = true

-- Room is taken at most once, and results are read from it only behind that. `taken`: whether code before this one took room.
abbrev pub uses_room : (taken : Bool) → List Instruction → Bool
uses_room taken [] = true
uses_room taken (i ∷ code) = fits_room taken i && uses_room (taken || is_room i) code

-- room and stack are used so, by a whole code
abbrev pub is_well_stacked : Lowered → Environment → (params results : List Kind) → List Instruction → Bool
is_well_stacked l environment params results code = uses_room false code && keeps_stack l environment params results code
