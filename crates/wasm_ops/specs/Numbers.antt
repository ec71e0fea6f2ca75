-- The numbers that entries have in the file that is written.
use Rattle.std.specs.Prelude.{ℕ, List, map, Option, Some, None, slice_get}
use Rattle.wasm_types.specs.declared.ids.TypeId.{TypeId}
use Rattle.wasm_types.specs.declared.ids.FuncId.{FuncId}
use Rattle.wasm_types.specs.declared.ids.TableId.{TableId}
use Rattle.wasm_types.specs.declared.ids.MemoryId.{MemoryId}
use Rattle.wasm_types.specs.declared.ids.GlobalId.{GlobalId}
use Rattle.wasm_types.specs.declared.ids.TagId.{TagId}
use Rattle.wasm_types.specs.declared.ids.ElemId.{ElemId}
use Rattle.wasm_types.specs.declared.ids.DataId.{DataId}
use Rattle.wasm_ops.specs.declared.ops.Op.{Op}
use Rattle.wasm_ops.specs.declared.ops.Op.TheVariants as ops
use Rattle.wasm_ops.specs.declared.ops.BlockType.{BlockType}
use Rattle.wasm_ops.specs.declared.ops.BlockType.TheVariants as block_types
use Rattle.wasm_ops.specs.declared.ops.Catch.{Catch}
use Rattle.wasm_ops.specs.declared.ops.Catch.TheVariants as catches
use Rattle.wasm_ops.specs.declared.ops.MemArg.{MemArg}
use Rattle.wasm_ops.specs.declared.ops.Numbering.{Numbering}

-- a number, 0 where there is none
abbrev pub or_zero : Option ℕ → ℕ
or_zero (Some n) = n
or_zero None = 0

-- the number of a place, 0 where there is none
abbrev pub number_at : List ℕ → ℕ → ℕ
number_at numbers place = or_zero (slice_get numbers place)

-- ids that are the numbers of their places
abbrev pub renumbered_type : Numbering → TypeId → TypeId
renumbered_type numbers id = record { 0 = number_at numbers.types id.0 }

abbrev pub renumbered_func : Numbering → FuncId → FuncId
renumbered_func numbers id = record { 0 = number_at numbers.funcs id.0 }

abbrev pub renumbered_table : Numbering → TableId → TableId
renumbered_table numbers id = record { 0 = number_at numbers.tables id.0 }

abbrev pub renumbered_memory : Numbering → MemoryId → MemoryId
renumbered_memory numbers id = record { 0 = number_at numbers.memories id.0 }

abbrev pub renumbered_global : Numbering → GlobalId → GlobalId
renumbered_global numbers id = record { 0 = number_at numbers.globals id.0 }

abbrev pub renumbered_tag : Numbering → TagId → TagId
renumbered_tag numbers id = record { 0 = number_at numbers.tags id.0 }

abbrev pub renumbered_elem : Numbering → ElemId → ElemId
renumbered_elem numbers id = record { 0 = number_at numbers.elems id.0 }

abbrev pub renumbered_segment : Numbering → DataId → DataId
renumbered_segment numbers id = record { 0 = number_at numbers.segments id.0 }

abbrev pub renumbered_block_type : Numbering → BlockType → BlockType
renumbered_block_type numbers block_types.Empty = block_types.Empty
renumbered_block_type numbers (block_types.Value ty) = block_types.Value ty
renumbered_block_type numbers (block_types.Index ty) = block_types.Index (renumbered_type numbers ty)

abbrev pub renumbered_catch : Numbering → Catch → Catch
renumbered_catch numbers (catches.Tag code tag label) = catches.Tag code (renumbered_tag numbers tag) label
renumbered_catch numbers (catches.All code label) = catches.All code label

abbrev pub renumbered_arg : Numbering → MemArg → MemArg
renumbered_arg numbers arg = record arg { memory = renumbered_memory numbers arg.memory }

-- an operator that names entries by their numbers
unfoldable pub renumbered_op : Numbering → Op → Op
renumbered_op numbers (ops.Plain code) = ops.Plain code
renumbered_op numbers (ops.Block code ty) = ops.Block code (renumbered_block_type numbers ty)
renumbered_op numbers (ops.Tag code tag) = ops.Tag code (renumbered_tag numbers tag)
renumbered_op numbers (ops.Label code label) = ops.Label code label
renumbered_op numbers (ops.BrTable labels label) = ops.BrTable labels label
renumbered_op numbers (ops.Func code func) = ops.Func code (renumbered_func numbers func)
renumbered_op numbers (ops.Indirect code ty table) = ops.Indirect code (renumbered_type numbers ty) (renumbered_table numbers table)
renumbered_op numbers (ops.Select types) = ops.Select types
renumbered_op numbers (ops.TryTable ty clauses) = ops.TryTable (renumbered_block_type numbers ty) (map (renumbered_catch numbers) clauses)
renumbered_op numbers (ops.Local code local) = ops.Local code local
renumbered_op numbers (ops.Global code global) = ops.Global code (renumbered_global numbers global)
renumbered_op numbers (ops.Table code table) = ops.Table code (renumbered_table numbers table)
renumbered_op numbers (ops.Mem code arg) = ops.Mem code (renumbered_arg numbers arg)
renumbered_op numbers (ops.Memory code memory) = ops.Memory code (renumbered_memory numbers memory)
renumbered_op numbers (ops.Const32 n) = ops.Const32 n
renumbered_op numbers (ops.Const64 n) = ops.Const64 n
renumbered_op numbers (ops.Raw4 bytes) = ops.Raw4 bytes
renumbered_op numbers (ops.Raw8 bytes) = ops.Raw8 bytes
renumbered_op numbers (ops.RefNull ty) = ops.RefNull ty
renumbered_op numbers (ops.FcPlain code) = ops.FcPlain code
renumbered_op numbers (ops.MemoryInit segment memory) = ops.MemoryInit (renumbered_segment numbers segment) (renumbered_memory numbers memory)
renumbered_op numbers (ops.DataDrop segment) = ops.DataDrop (renumbered_segment numbers segment)
renumbered_op numbers (ops.MemoryCopy to from) = ops.MemoryCopy (renumbered_memory numbers to) (renumbered_memory numbers from)
renumbered_op numbers (ops.MemoryFill memory) = ops.MemoryFill (renumbered_memory numbers memory)
renumbered_op numbers (ops.TableInit elem table) = ops.TableInit (renumbered_elem numbers elem) (renumbered_table numbers table)
renumbered_op numbers (ops.ElemDrop elem) = ops.ElemDrop (renumbered_elem numbers elem)
renumbered_op numbers (ops.TableCopy to from) = ops.TableCopy (renumbered_table numbers to) (renumbered_table numbers from)
renumbered_op numbers (ops.FcTable code table) = ops.FcTable code (renumbered_table numbers table)
renumbered_op numbers (ops.Simd code) = ops.Simd code
renumbered_op numbers (ops.SimdMem code arg) = ops.SimdMem code (renumbered_arg numbers arg)
renumbered_op numbers (ops.SimdMemLane code arg lane) = ops.SimdMemLane code (renumbered_arg numbers arg) lane
renumbered_op numbers (ops.SimdBytes code bytes) = ops.SimdBytes code bytes
renumbered_op numbers (ops.SimdLane code lane) = ops.SimdLane code lane
