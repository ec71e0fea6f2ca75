-- What an adapter is, as a JSON value.
use Rattle.std.specs.Prelude.{ℕ, List, [], ◌∷◌, Bool, codes, if◌then◌else◌, Option, Some, None, option_map, option_and_then, bytes_eq, is_some}
use Rattle.std.specs.Ordering.{nat_cmp}
use Rattle.std.specs.BTreeMap.{insert_entry}
use Rattle.serde_json.specs.Data.{Data, null, boolean, number, string, array, object, no_members, member}
use Rattle.serde_json.specs.Find.{get, as_bool, as_str, as_array}
use Rattle.values.specs.Map.{look_up}
use Rattle.wasm_core.specs.types.ValType.{ValType}
use Rattle.wasm_core.specs.types.ValType.TheVariants as wasm
use Rattle.glue_shared.specs.declared.adapter.Adapter.{Adapter}
use Rattle.glue_shared.specs.declared.adapter.AdapterJsImportKind.{AdapterJsImportKind}
use Rattle.glue_shared.specs.declared.adapter.AdapterJsImportKind.TheVariants as call
use Rattle.glue_shared.specs.declared.adapter.AdapterKind.{AdapterKind}
use Rattle.glue_shared.specs.declared.adapter.AdapterKind.TheVariants as adapter
use Rattle.glue_shared.specs.declared.adapter.AdapterType.{AdapterType}
use Rattle.glue_shared.specs.declared.adapter.AdapterType.TheVariants as type
use Rattle.glue_shared.specs.declared.adapter.VectorKind.{VectorKind}
use Rattle.glue_shared.specs.declared.adapter.VectorKind.TheVariants as vector
use Rattle.glue_shared.specs.declared.adapter.Instruction.{Instruction}
use Rattle.glue_shared.specs.declared.adapter.Instruction.TheVariants as step
use Rattle.glue_json.specs.declared.counts.Counts.{Counts}
use Rattle.glue_json.specs.Reading.{◌>>=◌, ◌>>◌, only, field, list_at, list_of, nullable, data_list, no_part, one_part, two_parts, three_parts, u32_of, wasm_export_of, func_of, memory_of}

-- ---- types

-- the elements of a vector, by their names
abbrev pub vector_kind : List ℕ → Option VectorKind
vector_kind name =
    if bytes_eq name (codes "I8") then Some vector.I8
    else if bytes_eq name (codes "U8") then Some vector.U8
    else if bytes_eq name (codes "I16") then Some vector.I16
    else if bytes_eq name (codes "U16") then Some vector.U16
    else if bytes_eq name (codes "I32") then Some vector.I32
    else if bytes_eq name (codes "U32") then Some vector.U32
    else if bytes_eq name (codes "I64") then Some vector.I64
    else if bytes_eq name (codes "U64") then Some vector.U64
    else if bytes_eq name (codes "Value") then Some vector.Value
    else None

-- a kind of vector, by its name
abbrev pub vector_kind_of : Data → Option VectorKind
vector_kind_of d = option_and_then vector_kind (as_str d)

-- a type that is one word
abbrev pub plain_type : List ℕ → Option AdapterType
plain_type name =
    if bytes_eq name (codes "i32") then Some type.I32
    else if bytes_eq name (codes "s32") then Some type.S32
    else if bytes_eq name (codes "u32") then Some type.U32
    else if bytes_eq name (codes "i64") then Some type.I64
    else if bytes_eq name (codes "s64") then Some type.S64
    else if bytes_eq name (codes "u64") then Some type.U64
    else if bytes_eq name (codes "bool") then Some type.Bool
    else if bytes_eq name (codes "string") then Some type.String
    else if bytes_eq name (codes "externref") then Some type.Externref
    else None

-- a type that is an object with one key, other than an option
abbrev pub keyed_type : List ℕ → Data → Option AdapterType
keyed_type key d =
    if bytes_eq key (codes "class") then option_map type.Class (as_str d)
    else if bytes_eq key (codes "enum") then option_map type.Enum (as_str d)
    else if bytes_eq key (codes "string_enum") then option_map type.StringEnum (as_str d)
    else if bytes_eq key (codes "union") then option_map type.Union (as_str d)
    else if bytes_eq key (codes "vec") then option_map type.Vector (vector_kind_of d)
    else None

-- a word, or an object with one key
unfoldable pub type_of : Data → Option AdapterType
type_of (string name) = plain_type name
type_of (object (member key d no_members)) = if bytes_eq key (codes "option") then option_map type.Option (type_of d) else keyed_type key d
type_of _ = None

-- ---- instructions

-- `i32` or `i64`
abbrev pub slot_type : List ℕ → Option ValType
slot_type name =
    if bytes_eq name (codes "i32") then Some wasm.I32
    else if bytes_eq name (codes "i64") then Some wasm.I64
    else None

-- the type of a slot behind a return pointer, by its name
abbrev pub slot_type_of : Data → Option ValType
slot_type_of d = option_and_then slot_type (as_str d)

-- instructions over memory, and those of any other name, which are kept whatever stands after the name
unfoldable pub memory_row : Counts → List ℕ → List Data → Option Instruction
memory_row c name parts =
    if bytes_eq name (codes "StringToMemory") then option_map (λ x. step.StringToMemory x.0 x.1 x.2) (three_parts (func_of c) (nullable (func_of c)) (memory_of c) parts)
    else if bytes_eq name (codes "OptionStringToMemory") then option_map (λ x. step.OptionStringToMemory x.0 x.1 x.2) (three_parts (func_of c) (nullable (func_of c)) (memory_of c) parts)
    else if bytes_eq name (codes "MemoryToString") then option_map step.MemoryToString (one_part (memory_of c) parts)
    else if bytes_eq name (codes "DeferFree") then option_map (λ x. step.DeferFree x.0 x.1) (two_parts (func_of c) u32_of parts)
    else if bytes_eq name (codes "Retptr") then option_map step.Retptr (one_part u32_of parts)
    else if bytes_eq name (codes "LoadRetptr") then option_map (λ x. step.LoadRetptr x.0 x.1 x.2) (three_parts u32_of slot_type_of (memory_of c) parts)
    else if bytes_eq name (codes "StoreRetptr") then option_map (λ x. step.StoreRetptr x.0 x.1 x.2) (three_parts u32_of slot_type_of (memory_of c) parts)
    else if bytes_eq name (codes "VecFromWasm") then option_map (λ x. step.VecFromWasm x.0 x.1) (two_parts vector_kind_of (memory_of c) parts)
    else if bytes_eq name (codes "VecToWasm") then option_map (λ x. step.VecToWasm x.0 x.1 x.2) (three_parts vector_kind_of (func_of c) (memory_of c) parts)
    else Some (step.Other name)

-- instructions over objects, classes, enums and closures
unfoldable pub object_row : Counts → List ℕ → List Data → Option Instruction
object_row c name parts =
    if bytes_eq name (codes "IndexFromOwned") then no_part step.IndexFromOwned parts
    else if bytes_eq name (codes "IndexFromBorrow") then no_part step.IndexFromBorrow parts
    else if bytes_eq name (codes "TakeIndex") then no_part step.TakeIndex parts
    else if bytes_eq name (codes "GetIndex") then no_part step.GetIndex parts
    else if bytes_eq name (codes "ClassIntoPtr") then option_map step.ClassIntoPtr (one_part as_str parts)
    else if bytes_eq name (codes "ClassPtr") then option_map step.ClassPtr (one_part as_str parts)
    else if bytes_eq name (codes "ClassFromPtr") then option_map step.ClassFromPtr (one_part as_str parts)
    else if bytes_eq name (codes "EnumIndex") then option_map step.EnumIndex (one_part as_str parts)
    else if bytes_eq name (codes "EnumText") then option_map step.EnumText (one_part as_str parts)
    else if bytes_eq name (codes "Closure") then option_map (λ x. step.Closure x.0 x.1) (two_parts u32_of as_bool parts)
    else memory_row c name parts

-- an instruction by its name and its parts
abbrev pub row : Counts → List ℕ → List Data → Option Instruction
row c name parts =
    if bytes_eq name (codes "ArgGet") then option_map step.ArgGet (one_part u32_of parts)
    else if bytes_eq name (codes "Int32ToWasm") then no_part step.Int32ToWasm parts
    else if bytes_eq name (codes "Int64ToWasm") then no_part step.Int64ToWasm parts
    else if bytes_eq name (codes "I32FromBool") then no_part step.I32FromBool parts
    else if bytes_eq name (codes "WasmToInt32") then option_map step.WasmToInt32 (one_part as_bool parts)
    else if bytes_eq name (codes "WasmToInt64") then option_map step.WasmToInt64 (one_part as_bool parts)
    else if bytes_eq name (codes "BoolFromI32") then no_part step.BoolFromI32 parts
    else if bytes_eq name (codes "CallExport") then option_map step.CallExport (one_part (wasm_export_of c) parts)
    else if bytes_eq name (codes "CallAdapter") then option_map step.CallAdapter (one_part u32_of parts)
    else if bytes_eq name (codes "UnwrapResult") then no_part step.UnwrapResult parts
    else object_row c name parts

-- a list whose first entry is the name
abbrev pub headed : Counts → List Data → Option Instruction
headed c [] = None
headed c (d ∷ parts) = option_and_then (λ name. row c name parts) (as_str d)

-- an instruction: a list whose first entry is its name
abbrev pub instruction_of : Counts → Data → Option Instruction
instruction_of c d = option_and_then (λ items. headed c (data_list items)) (as_array d)

-- ---- adapters

-- how an import is called, by its name
abbrev pub call_kind : List ℕ → Option AdapterJsImportKind
call_kind name =
    if bytes_eq name (codes "normal") then Some call.Normal
    else if bytes_eq name (codes "method") then Some call.Method
    else if bytes_eq name (codes "constructor") then Some call.Constructor
    else None

-- how an import is called: one of these names
abbrev pub call_kind_of : Data → Option AdapterJsImportKind
call_kind_of d = option_and_then call_kind (as_str d)

-- code, or the call of an import, and not both
abbrev pub kind_of : Counts → Option Data → Option Data → Option AdapterKind
kind_of c None None = None
kind_of c None (Some import) = option_map adapter.Import (call_kind_of import)
kind_of c (Some code) None = option_map adapter.Local (list_of (instruction_of c) code)
kind_of c (Some code) (Some import) = None

-- an adapter by its id
unfoldable pub adapter_of : Counts → Data → Option (ℕ × Adapter)
adapter_of c d = do
  only (codes "id" ∷ codes "args" ∷ codes "results" ∷ codes "code" ∷ codes "import" ∷ []) d
  id ← field (codes "id") u32_of d
  args ← list_at (codes "args") type_of d
  results ← list_at (codes "results") type_of d
  kind ← kind_of c (get (codes "code") d) (get (codes "import") d)
  Some (id, record { args = args; results = results; kind = kind })

-- the adapters by id, beside those that stand already, or nothing where an id stands twice
abbrev pub put_all : List (ℕ × Adapter) → List (ℕ × Adapter) → Option (List (ℕ × Adapter))
put_all adapters [] = Some adapters
put_all adapters (e ∷ es) = if is_some (look_up nat_cmp adapters e.0) then None else put_all (insert_entry nat_cmp adapters e.0 e.1) es

-- the adapters by id
abbrev pub adapters_of : Counts → Data → Option (List (ℕ × Adapter))
adapters_of c d = option_and_then (put_all []) (list_at (codes "adapters") (adapter_of c) d)
