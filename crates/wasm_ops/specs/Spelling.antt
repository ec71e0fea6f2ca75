-- The one spelling of operators that is written.
use Rattle.std.specs.Prelude.{ℕ, ◌+◌, pos, List, [], ◌∷◌, ◌++◌, ◌==◌, if◌then◌else◌}
use Rattle.wasm_bytes.specs.Numbers.{number_bytes}
use Rattle.wasm_bytes.specs.Signed.{signed_bytes}
use Rattle.wasm_bytes.specs.Spelling.{list_bytes}
use Rattle.wasm_types.specs.Types.{code_of}
use Rattle.wasm_types.specs.Spelling.{val_type_bytes}
use Rattle.wasm_ops.specs.declared.ops.Op.{Op}
use Rattle.wasm_ops.specs.declared.ops.Op.TheVariants as ops
use Rattle.wasm_ops.specs.declared.ops.BlockType.{BlockType}
use Rattle.wasm_ops.specs.declared.ops.BlockType.TheVariants as block_types
use Rattle.wasm_ops.specs.declared.ops.Catch.{Catch}
use Rattle.wasm_ops.specs.declared.ops.Catch.TheVariants as catches
use Rattle.wasm_ops.specs.declared.ops.MemArg.{MemArg}

-- nothing, one value, or the index of a type as a signed number
unfoldable pub block_type_bytes : BlockType → List ℕ
block_type_bytes block_types.Empty = 0x40 ∷ []
block_type_bytes (block_types.Value ty) = code_of ty ∷ []
block_type_bytes (block_types.Index ty) = signed_bytes (pos ty.0)

unfoldable pub catch_bytes : Catch → List ℕ
catch_bytes (catches.Tag code tag label) = code ∷ (number_bytes tag.0 ++ number_bytes label)
catch_bytes (catches.All code label) = code ∷ number_bytes label

-- the alignment field, with 64 more where the memory isn't 0 and follows, and the offset
unfoldable pub mem_arg_bytes : MemArg → List ℕ
mem_arg_bytes arg = (if arg.memory.0 == 0 then number_bytes arg.align else (number_bytes (arg.align + 64) ++ number_bytes arg.memory.0)) ++ number_bytes arg.offset

-- a byte and a number
abbrev pub coded : ℕ → ℕ → List ℕ
coded code n = code ∷ number_bytes n

-- an operator: its opcode, and what follows it
unfoldable pub op_bytes : Op → List ℕ
op_bytes (ops.Plain code) = code ∷ []
op_bytes (ops.Block code ty) = code ∷ block_type_bytes ty
op_bytes (ops.Tag code tag) = coded code tag.0
op_bytes (ops.Label code label) = coded code label
op_bytes (ops.BrTable labels label) = 0x0E ∷ (list_bytes number_bytes labels ++ number_bytes label)
op_bytes (ops.Func code func) = coded code func.0
op_bytes (ops.Indirect code ty table) = coded code ty.0 ++ number_bytes table.0
op_bytes (ops.Select types) = 0x1C ∷ list_bytes val_type_bytes types
op_bytes (ops.TryTable ty clauses) = 0x1F ∷ (block_type_bytes ty ++ list_bytes catch_bytes clauses)
op_bytes (ops.Local code local) = coded code local
op_bytes (ops.Global code global) = coded code global.0
op_bytes (ops.Table code table) = coded code table.0
op_bytes (ops.Mem code arg) = code ∷ mem_arg_bytes arg
op_bytes (ops.Memory code memory) = coded code memory.0
op_bytes (ops.Const32 n) = 0x41 ∷ signed_bytes n
op_bytes (ops.Const64 n) = 0x42 ∷ signed_bytes n
op_bytes (ops.Raw4 bytes) = 0x43 ∷ bytes
op_bytes (ops.Raw8 bytes) = 0x44 ∷ bytes
op_bytes (ops.RefNull ty) = 0xD0 ∷ val_type_bytes ty
op_bytes (ops.FcPlain code) = coded 0xFC code
op_bytes (ops.MemoryInit segment memory) = coded 0xFC 8 ++ (number_bytes segment.0 ++ number_bytes memory.0)
op_bytes (ops.DataDrop segment) = coded 0xFC 9 ++ number_bytes segment.0
op_bytes (ops.MemoryCopy to from) = coded 0xFC 10 ++ (number_bytes to.0 ++ number_bytes from.0)
op_bytes (ops.MemoryFill memory) = coded 0xFC 11 ++ number_bytes memory.0
op_bytes (ops.TableInit elem table) = coded 0xFC 12 ++ (number_bytes elem.0 ++ number_bytes table.0)
op_bytes (ops.ElemDrop elem) = coded 0xFC 13 ++ number_bytes elem.0
op_bytes (ops.TableCopy to from) = coded 0xFC 14 ++ (number_bytes to.0 ++ number_bytes from.0)
op_bytes (ops.FcTable code table) = coded 0xFC code ++ number_bytes table.0
op_bytes (ops.Simd code) = coded 0xFD code
op_bytes (ops.SimdMem code arg) = coded 0xFD code ++ mem_arg_bytes arg
op_bytes (ops.SimdMemLane code arg lane) = coded 0xFD code ++ (mem_arg_bytes arg ++ lane ∷ [])
op_bytes (ops.SimdBytes code bytes) = coded 0xFD code ++ bytes
op_bytes (ops.SimdLane code lane) = coded 0xFD code ++ lane ∷ []
