-- What the numbers of what is named must be.
use Rattle.std.specs.Prelude.{⊤}
use Rattle.std.specs.List.{AllByRecursion}
use Rattle.wasm_bytes.specs.declared.counts.Counts.{Counts}
use Rattle.wasm_ops_laws.specs.Fits.{IsIndex, FitsBlockType}
use Rattle.wasm_ops.specs.Numbers.{number_at, renumbered_block_type}
use Rattle.wasm_ops.specs.declared.ops.Catch.{Catch}
use Rattle.wasm_ops.specs.declared.ops.Catch.TheVariants as catches
use Rattle.wasm_ops.specs.declared.ops.Numbering.{Numbering}
use Rattle.wasm_ops.specs.declared.ops.Op.{Op}
use Rattle.wasm_ops.specs.declared.ops.Op.TheVariants as ops
use Rattle.wasm_reach.specs.declared.things.Thing.{Thing}
use Rattle.wasm_reach.specs.declared.things.Thing.TheVariants as things

-- The number of the thing is an index.
abbrev pub IsNumber : Numbering → Counts → Thing → Type 0
IsNumber numbers counts (things.Type i) = IsIndex counts.types (number_at numbers.types i)
IsNumber numbers counts (things.Func i) = IsIndex counts.funcs (number_at numbers.funcs i)
IsNumber numbers counts (things.Table i) = IsIndex counts.tables (number_at numbers.tables i)
IsNumber numbers counts (things.Memory i) = IsIndex counts.memories (number_at numbers.memories i)
IsNumber numbers counts (things.Global i) = IsIndex counts.globals (number_at numbers.globals i)
IsNumber numbers counts (things.Tag i) = IsIndex counts.tags (number_at numbers.tags i)
IsNumber numbers counts (things.Elem i) = IsIndex counts.elems (number_at numbers.elems i)
IsNumber numbers counts (things.Segment i) = IsIndex counts.segments (number_at numbers.segments i)

-- The number of the tag of a catch, if any, is an index.
abbrev pub TagFits : Numbering → Counts → Catch → Type 0
TagFits numbers counts (catches.Tag code tag label) = IsIndex counts.tags (number_at numbers.tags tag.0)
TagFits numbers counts (catches.All code label) = ⊤

-- The number of each entry that the operator names is an index.
abbrev pub NumbersFit : Numbering → Counts → Op → Type 0
NumbersFit numbers counts (ops.Block code ty) = FitsBlockType counts (renumbered_block_type numbers ty)
NumbersFit numbers counts (ops.Tag code tag) = IsIndex counts.tags (number_at numbers.tags tag.0)
NumbersFit numbers counts (ops.Func code func) = IsIndex counts.funcs (number_at numbers.funcs func.0)
NumbersFit numbers counts (ops.Indirect code ty table) = IsIndex counts.types (number_at numbers.types ty.0) × IsIndex counts.tables (number_at numbers.tables table.0)
NumbersFit numbers counts (ops.TryTable ty clauses) = FitsBlockType counts (renumbered_block_type numbers ty) × AllByRecursion (TagFits numbers counts) clauses
NumbersFit numbers counts (ops.Global code global) = IsIndex counts.globals (number_at numbers.globals global.0)
NumbersFit numbers counts (ops.Table code table) = IsIndex counts.tables (number_at numbers.tables table.0)
NumbersFit numbers counts (ops.Mem code arg) = IsIndex counts.memories (number_at numbers.memories arg.memory.0)
NumbersFit numbers counts (ops.Memory code memory) = IsIndex counts.memories (number_at numbers.memories memory.0)
NumbersFit numbers counts (ops.MemoryInit segment memory) = IsIndex counts.segments (number_at numbers.segments segment.0) × IsIndex counts.memories (number_at numbers.memories memory.0)
NumbersFit numbers counts (ops.DataDrop segment) = IsIndex counts.segments (number_at numbers.segments segment.0)
NumbersFit numbers counts (ops.MemoryCopy to from) = IsIndex counts.memories (number_at numbers.memories to.0) × IsIndex counts.memories (number_at numbers.memories from.0)
NumbersFit numbers counts (ops.MemoryFill memory) = IsIndex counts.memories (number_at numbers.memories memory.0)
NumbersFit numbers counts (ops.TableInit elem table) = IsIndex counts.elems (number_at numbers.elems elem.0) × IsIndex counts.tables (number_at numbers.tables table.0)
NumbersFit numbers counts (ops.ElemDrop elem) = IsIndex counts.elems (number_at numbers.elems elem.0)
NumbersFit numbers counts (ops.TableCopy to from) = IsIndex counts.tables (number_at numbers.tables to.0) × IsIndex counts.tables (number_at numbers.tables from.0)
NumbersFit numbers counts (ops.FcTable code table) = IsIndex counts.tables (number_at numbers.tables table.0)
NumbersFit numbers counts (ops.SimdMem code arg) = IsIndex counts.memories (number_at numbers.memories arg.memory.0)
NumbersFit numbers counts (ops.SimdMemLane code arg lane) = IsIndex counts.memories (number_at numbers.memories arg.memory.0)
NumbersFit numbers counts _ = ⊤
