-- What has a spelling that is read again, among so many entries.
use Rattle.std.specs.Prelude.{◌≡◌, ℕ, ◌+◌, ◌^◌, ◌<◌, ◌≤◌, ⊤, Bool, true, false, List, [], ◌∷◌, length, Some}
use Rattle.std.specs.List.{AllByRecursion, sum_by}
use Rattle.wasm_bytes.specs.declared.counts.Counts.{Counts}
use Rattle.wasm_bytes.specs.Signed.{IsWithin}
use Rattle.wasm_types.specs.Types.{is_reference}
use Rattle.wasm_ops.specs.Shapes.{shape_within, initial_shape, named_blocks, simd_shape}
use Rattle.wasm_ops.specs.Operands.{names_memory}
use Rattle.wasm_code.specs.Locals.{most_locals, joined_runs}
use Rattle.wasm_code.specs.Code.{labels_after}
use Rattle.wasm_code.specs.Spelling.{body_bytes}
use Rattle.wasm_ops.specs.declared.shapes.Shape.TheVariants as shapes
use Rattle.wasm_ops.specs.declared.shapes.SimdShape.TheVariants as simds
use Rattle.wasm_ops.specs.declared.ops.Op.{Op}
use Rattle.wasm_ops.specs.declared.ops.Op.TheVariants as ops
use Rattle.wasm_ops.specs.declared.ops.BlockType.{BlockType}
use Rattle.wasm_ops.specs.declared.ops.BlockType.TheVariants as block_types
use Rattle.wasm_ops.specs.declared.ops.Catch.{Catch}
use Rattle.wasm_ops.specs.declared.ops.Catch.TheVariants as catches
use Rattle.wasm_ops.specs.declared.ops.MemArg.{MemArg}
use Rattle.wasm_code.specs.declared.body.Body.{Body}

-- an index of 32 bits, below the number of its kind
abbrev pub IsIndex : ℕ → ℕ → Type 0
IsIndex count i = (i < count) × (i < 2 ^ 32)

-- the type that it names is there
abbrev pub FitsBlockType : Counts → BlockType → Type 0
FitsBlockType counts block_types.Empty = ⊤
FitsBlockType counts (block_types.Value ty) = ⊤
FitsBlockType counts (block_types.Index ty) = IsIndex counts.types ty.0

-- its code has its shape, and what it names is there
abbrev pub FitsCatch : Counts → ℕ → Catch → Type 0
FitsCatch counts blocks (catches.Tag code tag label) = (code < 2) × IsIndex counts.tags tag.0 × IsIndex blocks label
FitsCatch counts blocks (catches.All code label) = (2 ≤ code) × (code < 4) × IsIndex blocks label

-- an alignment field without bit 6, a memory that is there, and an offset of 64 bits
abbrev pub FitsMemArg : Counts → MemArg → Type 0
FitsMemArg counts arg = (arg.align < 2 ^ 32) × (names_memory arg.align ≡ false) × IsIndex counts.memories arg.memory.0 × (arg.offset < 2 ^ 64)

-- The operator can stand within these open blocks: its opcode has its shape there, and what it names is there.
abbrev pub FitsOp : Counts → List Bool → Op → Type 0
FitsOp counts labels (ops.Plain code) = shape_within labels code ≡ Some shapes.Plain
FitsOp counts labels (ops.Block code ty) = (shape_within labels code ≡ Some shapes.Block) × FitsBlockType counts ty
FitsOp counts labels (ops.Tag code tag) = (shape_within labels code ≡ Some shapes.Tag) × IsIndex counts.tags tag.0
FitsOp counts labels (ops.Label code label) = (shape_within labels code ≡ Some shapes.Label) × IsIndex (named_blocks labels code) label
FitsOp counts labels (ops.BrTable table label) = (length table < 2 ^ 32) × AllByRecursion (IsIndex (length labels)) table × IsIndex (length labels) label
FitsOp counts labels (ops.Func code func) = (shape_within labels code ≡ Some shapes.Func) × IsIndex counts.funcs func.0
FitsOp counts labels (ops.Indirect code ty table) = (shape_within labels code ≡ Some shapes.Indirect) × IsIndex counts.types ty.0 × IsIndex counts.tables table.0
FitsOp counts labels (ops.Select types) = length types < 2 ^ 32
FitsOp counts labels (ops.TryTable ty clauses) = FitsBlockType counts ty × (length clauses < 2 ^ 32) × AllByRecursion (FitsCatch counts (length labels)) clauses
FitsOp counts labels (ops.Local code local) = (shape_within labels code ≡ Some shapes.Local) × IsIndex counts.locals local
FitsOp counts labels (ops.Global code global) = (shape_within labels code ≡ Some shapes.Global) × IsIndex counts.globals global.0
FitsOp counts labels (ops.Table code table) = (shape_within labels code ≡ Some shapes.Table) × IsIndex counts.tables table.0
FitsOp counts labels (ops.Mem code arg) = (shape_within labels code ≡ Some shapes.Mem) × FitsMemArg counts arg
FitsOp counts labels (ops.Memory code memory) = (shape_within labels code ≡ Some shapes.Memory) × IsIndex counts.memories memory.0
FitsOp counts labels (ops.Const32 n) = IsWithin (2 ^ 31) n
FitsOp counts labels (ops.Const64 n) = IsWithin (2 ^ 63) n
FitsOp counts labels (ops.Raw4 bytes) = length bytes ≡ 4
FitsOp counts labels (ops.Raw8 bytes) = length bytes ≡ 8
FitsOp counts labels (ops.RefNull ty) = is_reference ty ≡ true
FitsOp counts labels (ops.FcPlain code) = code < 8
FitsOp counts labels (ops.MemoryInit segment memory) = IsIndex counts.segments segment.0 × IsIndex counts.memories memory.0
FitsOp counts labels (ops.DataDrop segment) = IsIndex counts.segments segment.0
FitsOp counts labels (ops.MemoryCopy to from) = IsIndex counts.memories to.0 × IsIndex counts.memories from.0
FitsOp counts labels (ops.MemoryFill memory) = IsIndex counts.memories memory.0
FitsOp counts labels (ops.TableInit elem table) = IsIndex counts.elems elem.0 × IsIndex counts.tables table.0
FitsOp counts labels (ops.ElemDrop elem) = IsIndex counts.elems elem.0
FitsOp counts labels (ops.TableCopy to from) = IsIndex counts.tables to.0 × IsIndex counts.tables from.0
FitsOp counts labels (ops.FcTable code table) = (15 ≤ code) × (code < 18) × IsIndex counts.tables table.0
FitsOp counts labels (ops.Simd code) = (code < 256) × (simd_shape code ≡ simds.Plain)
FitsOp counts labels (ops.SimdMem code arg) = (code < 256) × (simd_shape code ≡ simds.Mem) × FitsMemArg counts arg
FitsOp counts labels (ops.SimdMemLane code arg lane) = (code < 256) × (simd_shape code ≡ simds.MemLane) × FitsMemArg counts arg
FitsOp counts labels (ops.SimdBytes code bytes) = (code < 256) × (simd_shape code ≡ simds.Bytes) × (length bytes ≡ 16)
FitsOp counts labels (ops.SimdLane code lane) = (code < 256) × (simd_shape code ≡ simds.Lane)

-- The operators can stand one after another, from these open blocks on, up to one that closes the body.
abbrev pub FitsOps : Counts → List Bool → List Op → Type 0
FitsOps counts labels [] = length labels ≡ 1
FitsOps counts labels (x ∷ xs) = FitsOp counts labels x × (0 < length (labels_after x labels)) × FitsOps counts (labels_after x labels) xs

-- The operator can stand in an initial expression.
abbrev pub FitsInitial : Counts → Op → Type 0
FitsInitial counts (ops.Plain code) = initial_shape code ≡ Some shapes.Plain
FitsInitial counts (ops.Func code func) = (initial_shape code ≡ Some shapes.Func) × IsIndex counts.funcs func.0
FitsInitial counts (ops.Global code global) = (initial_shape code ≡ Some shapes.Global) × IsIndex counts.globals global.0
FitsInitial counts (ops.Const32 n) = IsWithin (2 ^ 31) n
FitsInitial counts (ops.Const64 n) = IsWithin (2 ^ 63) n
FitsInitial counts (ops.Raw4 bytes) = length bytes ≡ 4
FitsInitial counts (ops.Raw8 bytes) = length bytes ≡ 8
FitsInitial counts (ops.RefNull ty) = is_reference ty ≡ true
FitsInitial counts (ops.SimdBytes code bytes) = (code ≡ 12) × (length bytes ≡ 16)
FitsInitial counts _ = ⊥

-- The locals are few enough behind so many parameters, and the operators fit what then is there.
pub record FitsBody (counts : Counts) (params : ℕ) (b : Body) : Type 0 where
  pub few : params + sum_by (λ r. r.0) b.locals ≤ most_locals
  pub code : FitsOps (record counts { locals = params + sum_by (λ r. r.0) b.locals }) (false ∷ []) b.ops

-- 32 bits count its bytes
abbrev pub IsShort : Body → Type 0
IsShort b = length (body_bytes b) < 2 ^ 32

-- the same body, with its runs of locals joined
abbrev pub joined_body : Body → Body
joined_body b = record b { locals = joined_runs b.locals }

-- the body fits, and its runs of locals are joined
pub record IsReadBody (counts : Counts) (params : ℕ) (b : Body) : Type 0 where
  pub fits : FitsBody counts params b
  pub joined : joined_runs b.locals ≡ b.locals
