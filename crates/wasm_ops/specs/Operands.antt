-- What follows an opcode, and the operator that both make.
use Rattle.std.specs.Prelude.{ℕ, ◌-◌, ◌/◌, ◌%◌, ℤ, pos, int_le, int_lt, unsigned_abs, Bool, ◌||◌, ◌&&◌, List, Option, Some, None, Result, Ok, Err, nat_lt, ◌==◌, if◌then◌else◌}
use Rattle.std.specs.Option.{option_map}
use Rattle.wasm_bytes.specs.declared.counts.Counts.{Counts}
use Rattle.wasm_bytes.specs.Reading.{Input, ◌>>=◌, pure, byte, raw, allowed, meant, entries, value_of}
use Rattle.wasm_bytes.specs.Numbers.{number32, number64}
use Rattle.wasm_bytes.specs.Signed.{signed32, signed33, signed64}
use Rattle.wasm_bytes.specs.Items.{index}
use Rattle.wasm_types.specs.Types.{val_type_of}
use Rattle.wasm_types.specs.Entries.{val_type, ref_type, type_index, func_index, table_index, memory_index, global_index, tag_index, elem_index, data_index}
use Rattle.wasm_ops.specs.Shapes.{simd_shape}
use Rattle.wasm_ops.specs.declared.ops.Op.{Op}
use Rattle.wasm_ops.specs.declared.ops.Op.TheVariants as ops
use Rattle.wasm_ops.specs.declared.ops.BlockType.{BlockType}
use Rattle.wasm_ops.specs.declared.ops.BlockType.TheVariants as block_types
use Rattle.wasm_ops.specs.declared.ops.Catch.{Catch}
use Rattle.wasm_ops.specs.declared.ops.Catch.TheVariants as catches
use Rattle.wasm_ops.specs.declared.ops.MemArg.{MemArg}
use Rattle.wasm_ops.specs.declared.shapes.Shape.{Shape}
use Rattle.wasm_ops.specs.declared.shapes.Shape.TheVariants as shapes
use Rattle.wasm_ops.specs.declared.shapes.SimdShape.{SimdShape}
use Rattle.wasm_ops.specs.declared.shapes.SimdShape.TheVariants as simds

-- What the first byte asks for, from that byte on.
abbrev pub asked_by : {A : Type 0} → Result ℕ ℕ → (ℕ → Input → Result (A × Input) ℕ) → Input → Result (A × Input) ℕ
asked_by (Ok b) reader s = reader b s
asked_by (Err place) reader s = Err place

abbrev pub by_first : {A : Type 0} → (ℕ → Input → Result (A × Input) ℕ) → Input → Result (A × Input) ℕ
by_first reader s = asked_by (value_of (byte s)) reader s

-- a block type of one byte: nothing, or one value
abbrev pub short_block_type : ℕ → Option BlockType
short_block_type b = if b == 0x40 then Some block_types.Empty else option_map block_types.Value (val_type_of b)

-- the type of a number, of so many types
abbrev pub numbered_type : ℕ → ℤ → Option BlockType
numbered_type count number = if int_le (pos 0) number && int_lt number (pos count) then Some (block_types.Index (record { 0 = unsigned_abs number })) else None

-- a block type whose first byte stands for it, else a signed number that is an index of a type
unfoldable pub block_type_from : Counts → Option BlockType → Input → Result (BlockType × Input) ℕ
block_type_from counts (Some ty) = do
  _ ← byte
  pure ty
block_type_from counts None = meant (numbered_type counts.types) signed33

unfoldable pub block_type : Counts → Input → Result (BlockType × Input) ℕ
block_type counts = by_first (λ b. block_type_from counts (short_block_type b))

-- a label among so many open blocks
unfoldable pub labels : ℕ → Input → Result (List ℕ × Input) ℕ
labels blocks = do
  count ← number32
  entries count (index blocks)

-- a catch: 0 and 1 have a tag and a label, 2 and 3 a label
unfoldable pub catch_after : Counts → ℕ → ℕ → Input → Result (Catch × Input) ℕ
catch_after counts blocks code =
    if nat_lt code 2 then (do
      tag ← tag_index counts
      label ← index blocks
      pure (catches.Tag code tag label)) else (do
        label ← index blocks
        pure (catches.All code label))

unfoldable pub catch_clause : Counts → ℕ → Input → Result (Catch × Input) ℕ
catch_clause counts blocks = do
  code ← allowed (λ b. nat_lt b 4) byte
  catch_after counts blocks code

-- bit 6 of an alignment field: a memory index follows
abbrev pub names_memory : ℕ → Bool
names_memory field = field / 64 % 2 == 1

-- the alignment field, which names memory 0 where it has no bit 6
unfoldable pub align_field : Counts → Input → Result (ℕ × Input) ℕ
align_field counts = allowed (λ field. names_memory field || nat_lt 0 counts.memories) number32

unfoldable pub mem_arg : Counts → Input → Result (MemArg × Input) ℕ
mem_arg counts = do
  field ← align_field counts
  memory ← if names_memory field then memory_index counts else pure (record { 0 = 0 })
  offset ← number64
  pure (record { align = if names_memory field then field - 64 else field; memory = memory; offset = offset })

-- a number below 18, and what it asks for
unfoldable pub bulk_after : Counts → ℕ → Input → Result (Op × Input) ℕ
bulk_after counts code =
    if nat_lt code 8 then pure (ops.FcPlain code) else
    if code == 8 then (do
      segment ← data_index counts
      memory ← memory_index counts
      pure (ops.MemoryInit segment memory)) else
    if code == 9 then (do
      segment ← data_index counts
      pure (ops.DataDrop segment)) else
    if code == 10 then (do
      to ← memory_index counts
      from ← memory_index counts
      pure (ops.MemoryCopy to from)) else
    if code == 11 then (do
      memory ← memory_index counts
      pure (ops.MemoryFill memory)) else
    if code == 12 then (do
      elem ← elem_index counts
      table ← table_index counts
      pure (ops.TableInit elem table)) else
    if code == 13 then (do
      elem ← elem_index counts
      pure (ops.ElemDrop elem)) else
    if code == 14 then (do
      to ← table_index counts
      from ← table_index counts
      pure (ops.TableCopy to from)) else (do
        table ← table_index counts
        pure (ops.FcTable code table))

unfoldable pub bulk : Counts → Input → Result (Op × Input) ℕ
bulk counts = do
  code ← allowed (λ n. nat_lt n 18) number32
  bulk_after counts code

-- a number below 256, and what it asks for
unfoldable pub simd_after : Counts → ℕ → SimdShape → Input → Result (Op × Input) ℕ
simd_after counts code simds.Plain = pure (ops.Simd code)
simd_after counts code simds.Mem = do
  arg ← mem_arg counts
  pure (ops.SimdMem code arg)
simd_after counts code simds.MemLane = do
  arg ← mem_arg counts
  lane ← byte
  pure (ops.SimdMemLane code arg lane)
simd_after counts code simds.Bytes = do
  bytes ← raw 16
  pure (ops.SimdBytes code bytes)
simd_after counts code simds.Lane = do
  lane ← byte
  pure (ops.SimdLane code lane)

unfoldable pub simd : Counts → Input → Result (Op × Input) ℕ
simd counts = do
  code ← allowed (λ n. nat_lt n 256) number32
  simd_after counts code (simd_shape code)

-- the number 12 and sixteen bytes
unfoldable pub const128 : Input → Result (Op × Input) ℕ
const128 = do
  code ← allowed (λ n. n == 12) number32
  bytes ← raw 16
  pure (ops.SimdBytes code bytes)

-- the labels of a branch table, and the one beside them
unfoldable pub br_table : ℕ → Input → Result (Op × Input) ℕ
br_table blocks = do
  table ← labels blocks
  label ← index blocks
  pure (ops.BrTable table label)

unfoldable pub indirect : Counts → ℕ → Input → Result (Op × Input) ℕ
indirect counts code = do
  ty ← type_index counts
  table ← table_index counts
  pure (ops.Indirect code ty table)

unfoldable pub select : Input → Result (Op × Input) ℕ
select = do
  count ← number32
  types ← entries count val_type
  pure (ops.Select types)

unfoldable pub try_table : Counts → ℕ → Input → Result (Op × Input) ℕ
try_table counts blocks = do
  ty ← block_type counts
  count ← number32
  clauses ← entries count (catch_clause counts blocks)
  pure (ops.TryTable ty clauses)

-- What follows an opcode of a shape, where the labels can name so many open blocks.
unfoldable pub operands : Counts → ℕ → ℕ → Shape → Input → Result (Op × Input) ℕ
operands counts blocks code shapes.Plain = pure (ops.Plain code)
operands counts blocks code shapes.Block = do
  ty ← block_type counts
  pure (ops.Block code ty)
operands counts blocks code shapes.Tag = do
  tag ← tag_index counts
  pure (ops.Tag code tag)
operands counts blocks code shapes.Label = do
  label ← index blocks
  pure (ops.Label code label)
operands counts blocks code shapes.BrTable = br_table blocks
operands counts blocks code shapes.Func = do
  func ← func_index counts
  pure (ops.Func code func)
operands counts blocks code shapes.Indirect = indirect counts code
operands counts blocks code shapes.Select = select
operands counts blocks code shapes.TryTable = try_table counts blocks
operands counts blocks code shapes.Local = do
  local ← index counts.locals
  pure (ops.Local code local)
operands counts blocks code shapes.Global = do
  global ← global_index counts
  pure (ops.Global code global)
operands counts blocks code shapes.Table = do
  table ← table_index counts
  pure (ops.Table code table)
operands counts blocks code shapes.Mem = do
  arg ← mem_arg counts
  pure (ops.Mem code arg)
operands counts blocks code shapes.Memory = do
  memory ← memory_index counts
  pure (ops.Memory code memory)
operands counts blocks code shapes.Const32 = do
  n ← signed32
  pure (ops.Const32 n)
operands counts blocks code shapes.Const64 = do
  n ← signed64
  pure (ops.Const64 n)
operands counts blocks code shapes.Raw4 = do
  bytes ← raw 4
  pure (ops.Raw4 bytes)
operands counts blocks code shapes.Raw8 = do
  bytes ← raw 8
  pure (ops.Raw8 bytes)
operands counts blocks code shapes.RefNull = do
  ty ← ref_type
  pure (ops.RefNull ty)
operands counts blocks code shapes.Bulk = bulk counts
operands counts blocks code shapes.Simd = simd counts
operands counts blocks code shapes.Const128 = const128
