-- How types and indices are read.
use Rattle.std.specs.Prelude.{ℕ, Result}
use Rattle.wasm_bytes.specs.declared.counts.Counts.{Counts}
use Rattle.wasm_bytes.specs.Reading.{Input, ◌>>=◌, pure, byte, allowed, meant, entries}
use Rattle.wasm_bytes.specs.Numbers.{number32}
use Rattle.wasm_bytes.specs.Items.{index, exactly}
use Rattle.wasm_types.specs.Types.{val_type_of, is_reference}
use Rattle.wasm_types.specs.declared.types.ValType.{ValType}
use Rattle.wasm_types.specs.declared.types.FuncType.{FuncType}
use Rattle.wasm_types.specs.declared.ids.TypeId.{TypeId}
use Rattle.wasm_types.specs.declared.ids.FuncId.{FuncId}
use Rattle.wasm_types.specs.declared.ids.TableId.{TableId}
use Rattle.wasm_types.specs.declared.ids.MemoryId.{MemoryId}
use Rattle.wasm_types.specs.declared.ids.GlobalId.{GlobalId}
use Rattle.wasm_types.specs.declared.ids.TagId.{TagId}
use Rattle.wasm_types.specs.declared.ids.ElemId.{ElemId}
use Rattle.wasm_types.specs.declared.ids.DataId.{DataId}

unfoldable pub val_type : Input → Result (ValType × Input) ℕ
val_type = meant val_type_of byte

-- a value type that is one of references
unfoldable pub ref_type : Input → Result (ValType × Input) ℕ
ref_type = allowed is_reference val_type

unfoldable pub func_type : Counts → Input → Result (FuncType × Input) ℕ
func_type counts = do
  _ ← exactly 0x60
  n ← number32
  params ← entries n val_type
  m ← number32
  results ← entries m val_type
  pure (record { params = params; results = results })

unfoldable pub type_index : Counts → Input → Result (TypeId × Input) ℕ
type_index counts = do
  i ← index counts.types
  pure (record { 0 = i })

unfoldable pub func_index : Counts → Input → Result (FuncId × Input) ℕ
func_index counts = do
  i ← index counts.funcs
  pure (record { 0 = i })

unfoldable pub table_index : Counts → Input → Result (TableId × Input) ℕ
table_index counts = do
  i ← index counts.tables
  pure (record { 0 = i })

unfoldable pub memory_index : Counts → Input → Result (MemoryId × Input) ℕ
memory_index counts = do
  i ← index counts.memories
  pure (record { 0 = i })

unfoldable pub global_index : Counts → Input → Result (GlobalId × Input) ℕ
global_index counts = do
  i ← index counts.globals
  pure (record { 0 = i })

unfoldable pub tag_index : Counts → Input → Result (TagId × Input) ℕ
tag_index counts = do
  i ← index counts.tags
  pure (record { 0 = i })

unfoldable pub elem_index : Counts → Input → Result (ElemId × Input) ℕ
elem_index counts = do
  i ← index counts.elems
  pure (record { 0 = i })

unfoldable pub data_index : Counts → Input → Result (DataId × Input) ℕ
data_index counts = do
  i ← index counts.segments
  pure (record { 0 = i })
