-- Parts that the module or its description lacks: those that instructions need, that imports need, and that are needed to hand on what imports
-- throw.
use Rattle.std.specs.Prelude.{ℕ, Bool, true, false, not, ◌&&◌, ◌||◌, is_some, List, [], ◌∷◌, codes, Option, Some, None, option_map, if◌then◌else◌}
use Rattle.std.specs.List.{list_any}
use Rattle.std.specs.Option.{option_or}
use Rattle.wasm_core.specs.entries.ExportItem.{ExportItem}
use Rattle.wasm_core.specs.entries.ExportItem.TheVariants as items
use Rattle.wasm_core.specs.declared.types.Memory.{Memory}
use Rattle.glue_shared.specs.declared.adapter.Adapter.{Adapter}
use Rattle.glue_shared.specs.declared.adapter.Instruction.{Instruction}
use Rattle.glue_shared.specs.declared.adapter.Instruction.TheVariants as instr
use Rattle.glue_shared.specs.declared.import.AuxImport.{AuxImport}
use Rattle.glue_shared.specs.declared.import.AuxImport.TheVariants as what
use Rattle.glue_shared.specs.declared.import.Intrinsic.{Intrinsic}
use Rattle.glue_shared.specs.declared.import.Intrinsic.TheVariants as i
use Rattle.glue_shared.specs.declared.description.Lowered.{Lowered}
use Rattle.glue_shared.specs.declared.settings.Settings.{Settings}
use Rattle.glue_shared.specs.Roots.{instruction_items}
use Rattle.glue_imports.specs.Given.{given_item}
use Rattle.glue_steps.specs.declared.needed.ReferencePart.{ReferencePart}
use Rattle.glue_steps.specs.declared.needed.ReferencePart.TheVariants as parts
use Rattle.glue_steps.specs.declared.needed.TheConstants.{REFERENCE_PARTS}
use Rattle.glue_steps.specs.Needed.{destroyer_item, goes_by, makes_closure, part_item, store_item}
use Rattle.glue_steps.specs.Resolving.{entry_at}
use Rattle.glue_steps.specs.Room.{makes_room, has_stack}
use Rattle.glue_adapters.specs.Adapters.{code_of}
use Rattle.printed_adapters.specs.Caught.{catches, handing}
use Rattle.glue_faults.specs.declared.fault.Fault.{Fault}
use Rattle.glue_faults.specs.declared.fault.Fault.TheVariants as faults
use Rattle.glue_faults.specs.First.{first_of}

-- the intrinsic goes by an object table, or by a table of references of the module, and values are kept in the other
abbrev pub is_excluded : (externref : Bool) → Intrinsic → Bool
is_excluded true i.ExternrefHeapLiveCount = true
is_excluded false i.InitExternrefTable = true
is_excluded externref other = false

abbrev pub excludes : (externref : Bool) → AuxImport → Bool
excludes externref (what.Intrinsic name) = is_excluded externref name
excludes externref other = false

-- one memory stands and no other, and its addresses have 32 bits
abbrev pub has_sole_memory : List (Option Memory) → Bool
has_sole_memory [] = false
has_sole_memory (None ∷ memories) = has_sole_memory memories
has_sole_memory (Some memory ∷ memories) = not memory.limits.wide && not (list_any is_some memories)

-- a part of this name, where it isn't there
abbrev pub lacked_unless : (there : Bool) → (part : List ℕ) → Option (List ℕ)
lacked_unless true part = None
lacked_unless false part = Some part

-- such a memory, which an id names
abbrev pub memory_there : Lowered → Bool
memory_there l = has_sole_memory l.«module».memories && is_some (given_item l (what.Intrinsic i.Memory))

-- the part that an intrinsic needs and lacks
abbrev pub lacked_part : Lowered → Intrinsic → Option (List ℕ)
lacked_part l i.Memory = lacked_unless (memory_there l) (codes "memory")
lacked_part l i.StringFromUtf8Lossy = lacked_unless (memory_there l) (codes "memory")
lacked_part l i.FunctionTable = lacked_unless (is_some (given_item l (what.Intrinsic i.FunctionTable))) (codes "function_table")
lacked_part l i.InitExternrefTable = lacked_unless (is_some (given_item l (what.Intrinsic i.InitExternrefTable))) (codes "externref_table")
lacked_part l other = None

-- what an import needs and lacks: `externref`, where values aren't kept as it asks, and else a part
abbrev pub lacking : Settings → Lowered → AuxImport → Option (List ℕ)
lacking settings l (what.Intrinsic name) = if is_excluded settings.externref name then Some (codes "externref") else lacked_part l name
lacking settings l other = None

abbrev pub entry_lacks : Settings → Lowered → ℕ × AuxImport → Option (List ℕ)
entry_lacks settings l entry = lacking settings l entry.1

-- ---- what instructions lack

-- an object is lent, which a table of references doesn't take
abbrev pub lends : Instruction → Bool
lends instr.IndexFromBorrow = true
lends other = false

-- the name of a part in a description
abbrev pub part_name : ReferencePart → List ℕ
part_name parts.Alloc = codes "externref_alloc"
part_name parts.Drop = codes "externref_drop"
part_name parts.DropSlice = codes "externref_drop_slice"
part_name parts.Table = codes "externref_table"

-- an instruction goes by a part that isn't there
abbrev pub lacks_part : Lowered → ReferencePart → Instruction → Bool
lacks_part l part i = goes_by i part && not (is_some (part_item l part))

-- code lacks a part
abbrev pub part_lacked : Lowered → List Instruction → ReferencePart → Option (List ℕ)
part_lacked l code part = lacked_unless (not (list_any (lacks_part l part) code)) (part_name part)

-- what code lacks where values are kept in a table of references, the first in the order of bytes: `externref`, where an object is lent, or a
-- part
abbrev pub reference_lacked : (externref : Bool) → Lowered → List Instruction → Option (List ℕ)
reference_lacked false l code = None
reference_lacked true l code =
    option_or (lacked_unless (not (list_any lends code)) (codes "externref")) (first_of (part_lacked l code) REFERENCE_PARTS)

-- what code lacks for closures: the function that destroys them, where it makes one
abbrev pub closure_lacked : Lowered → List Instruction → Option (List ℕ)
closure_lacked l code = lacked_unless (not (list_any makes_closure code) || is_some (destroyer_item l)) (codes "destroy_closure")

-- a memory with addresses of 64 bits
abbrev pub is_wide_memory : Option Memory → Bool
is_wide_memory None = false
is_wide_memory (Some memory) = memory.limits.wide

abbrev pub is_wide : Lowered → ExportItem → Bool
is_wide l (items.Memory id) = is_wide_memory (entry_at l.«module».memories id.0)
is_wide l other = false

-- an id of an instruction names one
abbrev pub names_wide : Lowered → Instruction → Bool
names_wide l i = list_any (is_wide l) (instruction_items i)

-- what code lacks of memories: they have addresses of 32 bits
abbrev pub memory_lacked : Lowered → List Instruction → Option (List ℕ)
memory_lacked l code = lacked_unless (not (list_any (names_wide l) code)) (codes "memory")

-- what code lacks of the stack of the module: a global that tells where it ends, where room is taken on it
abbrev pub stack_lacked : Lowered → List Instruction → Option (List ℕ)
stack_lacked l code = lacked_unless (not (makes_room code) || has_stack l) (codes "stack_pointer")

-- the first part in the order of bytes that code lacks
abbrev pub code_lacks : Settings → Lowered → List Instruction → Option (List ℕ)
code_lacks settings l code =
    option_or (closure_lacked l code) (option_or (reference_lacked settings.externref l code) (option_or (memory_lacked l code) (stack_lacked l code)))

-- the first in that order that an adapter lacks
abbrev pub adapter_lacks : Settings → Lowered → ℕ × Adapter → Option (List ℕ)
adapter_lacks settings l entry = code_lacks settings l (code_of entry.1.kind)

-- ---- what is caught

-- the first in that order that is lacking to hand on what an import throws: the function that takes it, or a part that the value goes by
abbrev pub handing_lacks : Settings → Lowered → Option (List ℕ)
handing_lacks settings l = option_or (lacked_unless (is_some (store_item l)) (codes "exn_store")) (code_lacks settings l (handing ∷ []))

-- where the glue file catches that
abbrev pub catch_lacks : Settings → Lowered → Option (List ℕ)
catch_lacks settings l = if catches settings l then handing_lacks settings l else None

-- ---- all

-- an adapter lacks a part, or else a described import, or else what is caught
abbrev pub first_missing : Settings → Lowered → Option (List ℕ)
first_missing settings l =
    option_or (first_of (adapter_lacks settings l) l.wit.adapters) (option_or (first_of (entry_lacks settings l) l.aux.imports) (catch_lacks settings l))

abbrev pub missing_part : Settings → Lowered → Option Fault
missing_part settings l = option_map faults.MissingPart (first_missing settings l)
