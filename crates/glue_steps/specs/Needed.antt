-- What an instruction takes of the module: what its ids name, and parts of the description, for values that are kept in a table of references
-- and for closures. And the part that takes what an import threw.
use Rattle.std.specs.Prelude.{ℕ, Bool, true, false, is_some, List, [], ◌∷◌, ◌++◌, Option, Some, None, option_map, if◌then◌else◌}
use Rattle.std.specs.List.{flat_map, filter}
use Rattle.wasm_core.specs.entries.ExportItem.{ExportItem}
use Rattle.wasm_core.specs.entries.ExportItem.TheVariants as items
use Rattle.glue_shared.specs.declared.adapter.Instruction.{Instruction}
use Rattle.glue_shared.specs.declared.adapter.Instruction.TheVariants as instr
use Rattle.glue_shared.specs.declared.adapter.VectorKind.TheVariants as vectors
use Rattle.glue_shared.specs.declared.aux.WasmBindgenAux.{WasmBindgenAux}
use Rattle.glue_shared.specs.declared.description.Lowered.{Lowered}
use Rattle.glue_shared.specs.declared.settings.Settings.{Settings}
use Rattle.glue_shared.specs.Roots.{instruction_items, is_live_item, listed, live_item}
use Rattle.glue_steps.specs.declared.needed.ReferencePart.{ReferencePart}
use Rattle.glue_steps.specs.declared.needed.ReferencePart.TheVariants as parts

-- ---- the parts that an instruction goes by, where values are kept in a table of references

-- values are added by the table and the function that gives a free place
abbrev pub adds_by : ReferencePart → Bool
adds_by parts.Alloc = true
adds_by parts.Table = true
adds_by other = false

-- one is taken out by the table and the function that frees its place
abbrev pub takes_by : ReferencePart → Bool
takes_by parts.Drop = true
takes_by parts.Table = true
takes_by other = false

-- many are by the one that frees a run of places
abbrev pub takes_all_by : ReferencePart → Bool
takes_all_by parts.DropSlice = true
takes_all_by parts.Table = true
takes_all_by other = false

-- one is read by the table alone
abbrev pub gets_by : ReferencePart → Bool
gets_by parts.Table = true
gets_by other = false

-- an instruction goes by a part
abbrev pub goes_by : Instruction → ReferencePart → Bool
goes_by instr.IndexFromOwned part = adds_by part
goes_by (instr.VecToWasm vectors.Value malloc memory) part = adds_by part
goes_by instr.TakeIndex part = takes_by part
goes_by instr.UnwrapResult part = takes_by part
goes_by (instr.VecFromWasm vectors.Value memory) part = takes_all_by part
goes_by instr.GetIndex part = gets_by part
goes_by other part = false

-- ---- the items that are parts

-- what a description names as a part
abbrev pub part_named : WasmBindgenAux → ReferencePart → Option ExportItem
part_named aux parts.Alloc = option_map items.Func aux.externref_alloc
part_named aux parts.Drop = option_map items.Func aux.externref_drop
part_named aux parts.DropSlice = option_map items.Func aux.externref_drop_slice
part_named aux parts.Table = option_map items.Table aux.externref_table

-- the item that is a part, where it is there
abbrev pub part_item : Lowered → ReferencePart → Option ExportItem
part_item l part = live_item l.«module» (part_named l.aux part)

-- ---- closures

-- the adapter of the closure that an instruction makes
abbrev pub closure_id : Instruction → Option ℕ
closure_id (instr.Closure id mutable) = Some id
closure_id other = None

-- an instruction makes a closure
abbrev pub makes_closure : Instruction → Bool
makes_closure i = is_some (closure_id i)

-- the function that a description names as the one that destroys closures
abbrev pub destroyer : WasmBindgenAux → Option ExportItem
destroyer aux = option_map items.Func aux.destroy_closure

-- the item that is this function, where it is there
abbrev pub destroyer_item : Lowered → Option ExportItem
destroyer_item l = live_item l.«module» (destroyer l.aux)

-- ---- what imports throw

-- the function that a description names as the one that takes what an import threw
abbrev pub exception_store : WasmBindgenAux → Option ExportItem
exception_store aux = option_map items.Func aux.exn_store

-- the item that is this function, where it is there
abbrev pub store_item : Lowered → Option ExportItem
store_item l = live_item l.«module» (exception_store l.aux)

-- ---- what an instruction takes

-- what a description names as a part, where the instruction goes by it
abbrev pub part_taken : WasmBindgenAux → Instruction → ReferencePart → List ExportItem
part_taken aux i part = if goes_by i part then listed (part_named aux part) else []

abbrev pub parts_taken : WasmBindgenAux → Instruction → List ExportItem
parts_taken aux i = part_taken aux i parts.Alloc ++ (part_taken aux i parts.Drop ++ (part_taken aux i parts.DropSlice ++ part_taken aux i parts.Table))

-- the function that destroys closures, where the instruction makes one
abbrev pub destroyer_taken : WasmBindgenAux → Instruction → List ExportItem
destroyer_taken aux i = if makes_closure i then listed (destroyer aux) else []

-- what an instruction names, by its ids and as parts
abbrev pub named_by : (externref : Bool) → WasmBindgenAux → Instruction → List ExportItem
named_by externref aux i = instruction_items i ++ ((if externref then parts_taken aux i else []) ++ destroyer_taken aux i)

-- the items that an instruction takes, as far as they are there
abbrev pub needed_items : Settings → Lowered → Instruction → List ExportItem
needed_items s l i = filter (is_live_item l.«module») (named_by s.externref l.aux i)
