-- The entries of a file's sections.
use Rattle.std.specs.Prelude.{ℕ, Bool, not, ◌&&◌, ◌||◌, List, [], Option, Some, None, Result, nat_lt, nat_le, ◌==◌, bit_and, if◌then◌else◌}
use Rattle.wasm_bytes.specs.declared.counts.Counts.{Counts}
use Rattle.wasm_bytes.specs.Reading.{Input, followed, ◌>>=◌, pure, fault, byte, raw, allowed, entries, remaining}
use Rattle.wasm_bytes.specs.Numbers.{number32, number64}
use Rattle.wasm_bytes.specs.Items.{name, exactly}
use Rattle.wasm_types.specs.Entries.{val_type, ref_type, type_index, func_index, table_index, memory_index, global_index, tag_index}
use Rattle.wasm_code.specs.Code.{initial}
use Rattle.wasm_types.specs.declared.ids.TypeId.{TypeId}
use Rattle.wasm_types.specs.declared.ids.FuncId.{FuncId}
use Rattle.wasm_types.specs.declared.ids.TableId.{TableId}
use Rattle.wasm_types.specs.declared.ids.MemoryId.{MemoryId}
use Rattle.wasm_ops.specs.declared.ops.Op.{Op}
use Rattle.wasm_types.specs.declared.types.Limits.{Limits}
use Rattle.wasm_types.specs.declared.types.ValType.{ValType}
use Rattle.wasm_types.specs.declared.types.ValType.TheVariants.{FuncRef}
use Rattle.wasm_file.specs.declared.entries.Custom.{Custom}
use Rattle.wasm_file.specs.declared.entries.Elem.{Elem}
use Rattle.wasm_file.specs.declared.entries.ElemPlace.{ElemPlace}
use Rattle.wasm_file.specs.declared.entries.ElemPlace.TheVariants as places
use Rattle.wasm_file.specs.declared.entries.Export.{Export}
use Rattle.wasm_file.specs.declared.entries.ExportItem.{ExportItem}
use Rattle.wasm_file.specs.declared.entries.ExportItem.TheVariants as items
use Rattle.wasm_file.specs.declared.entries.FileGlobal.{FileGlobal}
use Rattle.wasm_file.specs.declared.entries.FileImport.{FileImport}
use Rattle.wasm_file.specs.declared.entries.ImportType.{ImportType}
use Rattle.wasm_file.specs.declared.entries.ImportType.TheVariants as asked
use Rattle.wasm_file.specs.declared.entries.Segment.{Segment}
use Rattle.wasm_file.specs.declared.entries.TableType.{TableType}

-- ---- types

-- this bit of a byte of flags is set
abbrev pub has_bit : ℕ → ℕ → Bool
has_bit bit flags = not (bit_and flags bit == 0)

-- the greatest limit of a table: any number of 64 bits
abbrev pub any_limit : ℕ
any_limit = 18446744073709551615

-- the greatest limit of a memory
abbrev pub memory_limit : ℕ
memory_limit = 9223372036854775807

-- one limit, at most the greatest: a number of 64 bits where addresses are so wide
unfoldable pub limit : ℕ → Bool → Input → Result (ℕ × Input) ℕ
limit greatest wide = allowed (λ n. nat_le n greatest) (if wide then number64 else number32)

-- a second limit, where the flags tell of one
unfoldable pub maximum : ℕ → ℕ → Input → Result (Option ℕ × Input) ℕ
maximum greatest flags = if has_bit 1 flags then (do
  n ← limit greatest (has_bit 4 flags)
  pure (Some n)) else pure None

-- a byte of three flags, and limits
unfoldable pub limits : ℕ → Input → Result (Limits × Input) ℕ
limits greatest = do
  flags ← allowed (λ b. nat_lt b 8) byte
  min ← limit greatest (has_bit 4 flags)
  max ← maximum greatest flags
  pure (record { min = min; max = max; shared = has_bit 2 flags; wide = has_bit 4 flags })

-- the limits of a memory
unfoldable pub memory_type : Input → Result (Limits × Input) ℕ
memory_type = limits memory_limit

-- a type of references, and limits
unfoldable pub table_type : Input → Result (TableType × Input) ℕ
table_type = do
  ty ← ref_type
  size ← limits any_limit
  pure (record { elem = ty; limits = size })

-- 0 for what is never set, 1 for what can be
unfoldable pub mutability : Input → Result (Bool × Input) ℕ
mutability = do
  b ← allowed (λ b. nat_lt b 2) byte
  pure (b == 1)

-- a byte 0, and the type of the function that stands for the tag
unfoldable pub tag_type : Counts → Input → Result (TypeId × Input) ℕ
tag_type counts = do
  _ ← exactly 0
  type_index counts

-- ---- imports and exports

-- what an import of a kind asks for; place is that of the kind
unfoldable pub import_of : Counts → ℕ → ℕ → Input → Result (ImportType × Input) ℕ
import_of counts place kind =
    if kind == 0 then (do
      ty ← type_index counts
      pure (asked.Func ty)) else
    if kind == 1 then (do
      table ← table_type
      pure (asked.Table table.elem table.limits)) else
    if kind == 2 then (do
      size ← memory_type
      pure (asked.Memory size)) else
    if kind == 3 then (do
      ty ← val_type
      mutable ← mutability
      pure (asked.Global ty mutable)) else
    if kind == 4 then (do
      ty ← tag_type counts
      pure (asked.Tag ty)) else fault place

-- a kind, and what an import of it asks for
unfoldable pub import_type : Counts → Input → Result (ImportType × Input) ℕ
import_type counts s = followed (byte s) (import_of counts s.place)

-- a module, a name in it, and what is asked for
unfoldable pub «import» : Counts → Input → Result (FileImport × Input) ℕ
«import» counts = do
  from ← name
  field ← name
  ty ← import_type counts
  pure (record { «module» = from; name = field; ty = ty })

-- what an export of a kind gives out; place is that of the kind
unfoldable pub export_of : Counts → ℕ → ℕ → Input → Result (ExportItem × Input) ℕ
export_of counts place kind =
    if kind == 0 then (do
      i ← func_index counts
      pure (items.Func i)) else
    if kind == 1 then (do
      i ← table_index counts
      pure (items.Table i)) else
    if kind == 2 then (do
      i ← memory_index counts
      pure (items.Memory i)) else
    if kind == 3 then (do
      i ← global_index counts
      pure (items.Global i)) else
    if kind == 4 then (do
      i ← tag_index counts
      pure (items.Tag i)) else fault place

-- a kind, and the index of what is given out
unfoldable pub export_item : Counts → Input → Result (ExportItem × Input) ℕ
export_item counts s = followed (byte s) (export_of counts s.place)

-- a name, and what is given out
unfoldable pub «export» : Counts → Input → Result (Export × Input) ℕ
«export» counts = do
  field ← name
  item ← export_item counts
  pure (record { name = field; item = item })

-- ---- globals

-- a value type, whether it can be set, and its first value
unfoldable pub global_entry : Counts → Input → Result (FileGlobal × Input) ℕ
global_entry counts = do
  ty ← val_type
  mutable ← mutability
  init ← initial counts
  pure (record { ty = ty; mutable = mutable; init = init })

-- ---- element segments

-- the flags of an element segment: 0 and 4 mean table 0, which must be there
abbrev pub are_elem_flags : Counts → ℕ → Bool
are_elem_flags counts flags = nat_lt flags 8 && (nat_lt 0 counts.tables || not (flags == 0 || flags == 4))

-- the table of an active segment: the one that is told under 2 and 6, else table 0
unfoldable pub elem_table : Counts → ℕ → Input → Result (TableId × Input) ℕ
elem_table counts flags = if flags == 2 || flags == 6 then table_index counts else pure (record { 0 = 0 })

-- passive under 1 and 5, declared under 3 and 7, else into a table at the place that an expression gives
unfoldable pub elem_place : Counts → ℕ → Input → Result (ElemPlace × Input) ℕ
elem_place counts flags =
    if flags == 1 || flags == 5 then pure places.Passive else
    if flags == 3 || flags == 7 then pure places.Declared else (do
      table ← elem_table counts flags
      offset ← initial counts
      pure (places.Active table offset))

-- references to functions, told by a byte 0 under 1, 2 and 3; a type of references under 5, 6 and 7
unfoldable pub elem_type : ℕ → Input → Result (ValType × Input) ℕ
elem_type flags =
    if flags == 0 || flags == 4 then pure FuncRef else
    if nat_lt flags 4 then (do
      _ ← exactly 0
      pure FuncRef) else ref_type

-- functions under 0 to 3, else an expression for each entry
unfoldable pub elem_entries : Counts → ℕ → Input → Result ((List FuncId × List (List Op)) × Input) ℕ
elem_entries counts flags = do
  n ← number32
  if nat_lt flags 4 then (do
    xs ← entries n (func_index counts)
    pure (xs, [])) else (do
      xs ← entries n (initial counts)
      pure ([], xs))

-- an element segment
unfoldable pub elem : Counts → Input → Result (Elem × Input) ℕ
elem counts = do
  flags ← allowed (are_elem_flags counts) number32
  place ← elem_place counts flags
  ty ← elem_type flags
  xs ← elem_entries counts flags
  pure (record { place = place; ty = ty; funcs = xs.0; exprs = xs.1 })

-- ---- data segments

-- the flags of a data segment: 0 means memory 0, which must be there
abbrev pub are_segment_flags : Counts → ℕ → Bool
are_segment_flags counts flags = nat_lt flags 3 && (nat_lt 0 counts.memories || not (flags == 0))

-- the memory of an active segment: the one that is told under 2, else memory 0
unfoldable pub segment_memory : Counts → ℕ → Input → Result (MemoryId × Input) ℕ
segment_memory counts flags = if flags == 2 then memory_index counts else pure (record { 0 = 0 })

-- passive under 1, else into a memory at the place that an expression gives
unfoldable pub segment_place : Counts → ℕ → Input → Result (Option (MemoryId × List Op) × Input) ℕ
segment_place counts flags = if flags == 1 then pure None else (do
  memory ← segment_memory counts flags
  offset ← initial counts
  pure (Some (memory, offset)))

-- a length and that many bytes
unfoldable pub blob : Input → Result (List ℕ × Input) ℕ
blob = do
  n ← number32
  raw n

-- a data segment
unfoldable pub segment : Counts → Input → Result (Segment × Input) ℕ
segment counts = do
  flags ← allowed (are_segment_flags counts) number32
  place ← segment_place counts flags
  bytes ← blob
  pure (record { place = place; bytes = bytes })

-- ---- custom sections

-- a name and any bytes
unfoldable pub custom : Input → Result (Custom × Input) ℕ
custom = do
  field ← name
  bytes ← remaining
  pure (record { name = field; bytes = bytes })
