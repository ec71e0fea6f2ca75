-- What a description keeps of a module: the entries that its ids name.
use Rattle.std.specs.Prelude.{ℕ, ◌+◌, ◌^◌, Bool, true, false, List, [], ◌∷◌, ◌++◌, Option, Some, None, option_map, slice_get, nat_lt, if◌then◌else◌}
use Rattle.std.specs.List.{flat_map, filter}
use Rattle.wasm_core.specs.ids.ImportId.{ImportId}
use Rattle.wasm_core.specs.entries.ExportItem.{ExportItem}
use Rattle.wasm_core.specs.entries.ExportItem.TheVariants as items
use Rattle.wasm_core.specs.declared.types.Import.{Import}
use Rattle.wasm_core.specs.declared.types.ImportKind.{ImportKind}
use Rattle.wasm_core.specs.declared.types.ImportKind.TheVariants as kinds
use Rattle.wasm_core.specs.Contents.{Contents}
use Rattle.glue_shared.specs.Names.{code_of}
use Rattle.glue_shared.specs.declared.adapter.Adapter.{Adapter}
use Rattle.glue_shared.specs.declared.adapter.Instruction.{Instruction}
use Rattle.glue_shared.specs.declared.adapter.Instruction.TheVariants as step
use Rattle.glue_shared.specs.declared.adapter.NonstandardWitSection.{NonstandardWitSection}
use Rattle.glue_shared.specs.declared.aux.WasmBindgenAux.{WasmBindgenAux}
use Rattle.glue_shared.specs.declared.description.Lowered.{Lowered}

-- the item, if there is one
abbrev pub listed : Option ExportItem → List ExportItem
listed None = []
listed (Some item) = item ∷ []

-- what the ids of an instruction name; an export is kept as it is, and an adapter is no entry of the module
abbrev pub instruction_items : Instruction → List ExportItem
instruction_items (step.StringToMemory malloc realloc memory) = items.Func malloc ∷ (listed (option_map items.Func realloc) ++ items.Memory memory ∷ [])
instruction_items (step.OptionStringToMemory malloc realloc memory) = items.Func malloc ∷ (listed (option_map items.Func realloc) ++ items.Memory memory ∷ [])
instruction_items (step.MemoryToString memory) = items.Memory memory ∷ []
instruction_items (step.DeferFree free align) = items.Func free ∷ []
instruction_items (step.LoadRetptr offset ty memory) = items.Memory memory ∷ []
instruction_items (step.StoreRetptr offset ty memory) = items.Memory memory ∷ []
instruction_items (step.VecFromWasm kind memory) = items.Memory memory ∷ []
instruction_items (step.VecToWasm kind malloc memory) = items.Func malloc ∷ items.Memory memory ∷ []
instruction_items _ = []

-- what an adapter's code names
abbrev pub adapter_items : ℕ × Adapter → List ExportItem
adapter_items a = flat_map instruction_items (code_of (Some a.1))

-- the entry that an import brings in
abbrev pub kind_item : ImportKind → ExportItem
kind_item (kinds.Func id) = items.Func id
kind_item (kinds.Table id) = items.Table id
kind_item (kinds.Memory id) = items.Memory id
kind_item (kinds.Global id) = items.Global id
kind_item (kinds.Tag id) = items.Tag id

abbrev pub brought_in : Option (Option Import) → Option ExportItem
brought_in (Some (Some i)) = Some (kind_item i.kind)
brought_in (Some None) = None
brought_in None = None

-- what an import that an adapter defines brings in
abbrev pub import_items : Contents → ImportId × ℕ → List ExportItem
import_items m pair = listed (brought_in (slice_get m.imports pair.0.0))

-- the parts that a description names
abbrev pub part_items : WasmBindgenAux → List (Option ExportItem)
part_items aux =
    option_map items.Func aux.exn_store
    ∷ option_map items.Func aux.externref_alloc
    ∷ option_map items.Func aux.externref_drop
    ∷ option_map items.Func aux.externref_drop_slice
    ∷ option_map items.Func aux.destroy_closure
    ∷ option_map items.Func aux.rethrow_critical
    ∷ option_map items.Table aux.externref_table
    ∷ option_map items.Table aux.function_table
    ∷ option_map items.Global aux.stack_pointer
    ∷ option_map items.Tag aux.js_tag
    ∷ option_map items.Tag aux.wrapped_js_tag
    ∷ []

-- the place of the first entry that is there, places being counted from a number
abbrev pub first_place : {A : Type 0} → ℕ → List (Option A) → Option ℕ
first_place from [] = None
first_place from (None ∷ entries) = first_place (from + 1) entries
first_place from (Some entry ∷ entries) = Some from

-- the memory at a place that an id can name
abbrev pub memory_at : Option ℕ → Option ExportItem
memory_at None = None
memory_at (Some place) = if nat_lt place (2 ^ 32) then Some (items.Memory (record { 0 = place })) else None

-- the first memory
abbrev pub first_memory : Contents → Option ExportItem
first_memory m = memory_at (first_place 0 m.memories)

-- what the ids of a description name, and the first memory
unfoldable pub named_items : Contents → NonstandardWitSection → WasmBindgenAux → List ExportItem
named_items m wit aux =
    flat_map adapter_items wit.adapters
    ++ (flat_map (import_items m) wit.implements
    ++ (flat_map listed (part_items aux)
    ++ listed (first_memory m)))

abbrev pub is_entry : {A : Type 0} → Option (Option A) → Bool
is_entry (Some (Some x)) = true
is_entry (Some None) = false
is_entry None = false

-- the item is there
abbrev pub is_live_item : Contents → ExportItem → Bool
is_live_item m (items.Func id) = is_entry (slice_get m.funcs id.0)
is_live_item m (items.Table id) = is_entry (slice_get m.tables id.0)
is_live_item m (items.Memory id) = is_entry (slice_get m.memories id.0)
is_live_item m (items.Global id) = is_entry (slice_get m.globals id.0)
is_live_item m (items.Tag id) = is_entry (slice_get m.tags id.0)

-- an item, where it is there
abbrev pub live_item : Contents → Option ExportItem → Option ExportItem
live_item m None = None
live_item m (Some item) = if is_live_item m item then Some item else None

-- the entries of the module that the ids of the description name, and its first memory
unfoldable pub roots_of : Lowered → List ExportItem
roots_of l = filter (is_live_item l.«module») (named_items l.«module» l.wit l.aux)
