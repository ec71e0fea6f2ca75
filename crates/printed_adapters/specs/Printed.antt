-- The code of the adapters that become functions: those of exports, those of own imports, and those of closures that such code makes. What it asks
-- of the module that is written.
use Rattle.std.specs.Prelude.{ℕ, Bool, List, [], ◌∷◌, ◌++◌, map, Option, Some, None, if◌then◌else◌}
use Rattle.std.specs.List.{filter, filter_map, flat_map, list_all}
use Rattle.std.specs.Map.{keys_of}
use Rattle.std.specs.Ordering.{nat_cmp}
use Rattle.values.specs.Map.{look_up}
use Rattle.least_set.specs.Least.{IsLeast}
use Rattle.wasm_core.specs.ids.ImportId.{ImportId}
use Rattle.glue_shared.specs.declared.adapter.Instruction.{Instruction}
use Rattle.glue_shared.specs.declared.adapter.Instruction.TheVariants as instr
use Rattle.glue_shared.specs.declared.aux.AuxExport.{AuxExport}
use Rattle.glue_shared.specs.declared.description.Lowered.{Lowered}
use Rattle.glue_shared.specs.declared.settings.Settings.{Settings}
use Rattle.glue_shared.specs.Names.{has_number, code_of, own_imports}
pub use Rattle.glue_steps.specs.Needed.{closure_id}
use Rattle.glue_steps.specs.Room.{makes_room}

-- the code of an adapter, by its id
abbrev pub code_by : Lowered → ℕ → List Instruction
code_by l id = code_of (look_up nat_cmp l.wit.adapters id)

-- that of an export's adapter
abbrev pub export_code : Lowered → AuxExport → List Instruction
export_code l e = code_by l e.adapter

-- that of a pair's, where its import is one of these
abbrev pub pair_code : List ℕ → Lowered → ImportId × ℕ → List Instruction
pair_code own l pair = if has_number pair.0.0 own then code_by l pair.1 else []

-- the code of adapters of exports, and then of own imports
abbrev pub outer_code : Settings → Lowered → List Instruction
outer_code s l =
    flat_map (export_code l) l.aux.exports ++ flat_map (pair_code (own_imports s l.«module» l.wit l.aux) l) l.wit.implements

-- ---- closures

-- the adapters of the closures that code makes
abbrev pub closures_in : List Instruction → List ℕ
closures_in code = filter_map closure_id code

-- those that the code of an adapter makes
abbrev pub closures_by : Lowered → ℕ → List ℕ
closures_by l id = closures_in (code_by l id)

-- the ids of the adapters, in order
abbrev pub adapter_ids : Lowered → List ℕ
adapter_ids l = keys_of l.wit.adapters

-- those of these ids that adapters have
abbrev pub adapters_among : Lowered → List ℕ → List ℕ
adapters_among l some = filter (λ id. has_number id (adapter_ids l)) some

-- each choice of some of these
abbrev pub choices : {A : Type 0} → List A → List (List A)
choices [] = [] ∷ []
choices (x ∷ xs) = map (λ some. x ∷ some) (choices xs) ++ choices xs

-- a set has the adapters of the closures that this code makes, and of those that the code of its own makes
abbrev pub holds_closures : Lowered → List Instruction → List ℕ → Bool
holds_closures l code set = list_all (λ id. has_number id set) (adapters_among l (closures_in code ++ flat_map (closures_by l) set))

-- these are the least set that has the adapters of the closures that the code of exports and own imports makes, and those that its own code makes
abbrev pub AreUsed : Settings → Lowered → List ℕ → Type 0
AreUsed s l used = IsLeast (λ id. adapters_among l (closures_by l id)) (adapters_among l (closures_in (outer_code s l))) (λ id. has_number id used)

-- the adapters of the closures that are used: those that each such set of adapters has, so that they are the least such set
unfoldable pub used_closures : Settings → Lowered → List ℕ
used_closures s l =
    filter (λ id. list_all (λ set. has_number id set) (filter (holds_closures l (outer_code s l)) (choices (adapter_ids l)))) (adapter_ids l)

-- ---- the code of all

-- the instructions of all: of adapters of exports, of own imports, and of closures that are used
abbrev pub printed_code : Settings → Lowered → List Instruction
printed_code s l = outer_code s l ++ flat_map (code_by l) (used_closures s l)

-- an adapter that becomes a function takes room for results on the stack of the module, so that the module needs a function that moves the
-- stack, and an export of it
abbrev pub uses_shim : Settings → Lowered → Bool
uses_shim s l = makes_room (printed_code s l)

-- the string enum that an instruction names
abbrev pub enum_named : Instruction → List (List ℕ)
enum_named (instr.EnumIndex name) = name ∷ []
enum_named (instr.EnumText name) = name ∷ []
enum_named other = []

-- the string enums that adapters which become functions name, so that the glue file needs the lists of their texts
abbrev pub named_enums : Settings → Lowered → List (List ℕ)
named_enums s l = flat_map enum_named (printed_code s l)
