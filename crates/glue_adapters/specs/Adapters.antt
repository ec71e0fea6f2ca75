-- What adapters have to be: those that are exported, those that stand for imports, and all others.
use Rattle.std.specs.Prelude.{ℕ, ◌==◌, nat_le, Bool, true, false, not, ◌&&◌, List, [], length, Option, Some, None, option_map}
use Rattle.std.specs.List.{list_any, list_all, count_by}
use Rattle.std.specs.Ordering.{nat_cmp}
use Rattle.values.specs.Map.{look_up}
use Rattle.wasm_core.specs.types.FuncType.{FuncType}
use Rattle.glue_shared.specs.declared.adapter.Adapter.{Adapter}
use Rattle.glue_shared.specs.declared.adapter.AdapterKind.{AdapterKind}
use Rattle.glue_shared.specs.declared.adapter.AdapterKind.TheVariants as kinds
use Rattle.glue_shared.specs.declared.adapter.Instruction.{Instruction}
use Rattle.glue_shared.specs.declared.adapter.Instruction.TheVariants as instr
use Rattle.glue_shared.specs.declared.adapter.NonstandardWitSection.{NonstandardWitSection}
use Rattle.glue_shared.specs.declared.description.Lowered.{Lowered}
use Rattle.glue_shared.specs.Names.{has_number}
use Rattle.glue_faults.specs.declared.fault.Fault.{Fault}
use Rattle.glue_faults.specs.declared.fault.Fault.TheVariants as faults
use Rattle.glue_faults.specs.First.{first_of}
use Rattle.glue_adapters.specs.declared.environment.Environment.{Environment}
use Rattle.glue_adapters.specs.declared.kind.Kind.{Kind}
use Rattle.glue_adapters.specs.Stack.{kinds_of, js_kinds, is_well_stacked}

-- the instructions of an adapter, none where it is a call
abbrev pub code_of : AdapterKind → List Instruction
code_of (kinds.Local code) = code
code_of (kinds.Import call) = []

abbrev pub has_code : AdapterKind → Bool
has_code (kinds.Local code) = true
has_code (kinds.Import call) = false

abbrev pub adapter_at : Lowered → ℕ → Option Adapter
adapter_at l id = look_up nat_cmp l.wit.adapters id

-- an adapter with code
abbrev pub is_local : Option Adapter → Bool
is_local None = false
is_local (Some a) = has_code a.kind

-- an adapter that is the call of an import
abbrev pub is_import : Option Adapter → Bool
is_import None = false
is_import (Some a) = not (has_code a.kind)

-- ---- an instruction that nothing carries out

abbrev pub unsupported_name : Instruction → Option (List ℕ)
unsupported_name (instr.Other name) = Some name
unsupported_name other = None

abbrev pub unsupported_in : ℕ × Adapter → Option Fault
unsupported_in entry = option_map (λ name. faults.UnsupportedInstr entry.0 name) (first_of unsupported_name (code_of entry.1.kind))

-- the first adapter with such an instruction, and the first of these
abbrev pub unsupported : NonstandardWitSection → Option Fault
unsupported wit = first_of unsupported_in wit.adapters

-- ---- calls

-- a call of an export
unfoldable pub is_export_call : Instruction → Bool
is_export_call (instr.CallExport id) = true
is_export_call other = false

-- a call of an import
unfoldable pub is_import_call : Instruction → Bool
is_import_call (instr.CallAdapter id) = true
is_import_call other = false

-- what is called is an import adapter with an entry among these
abbrev pub is_described_call : Lowered → List ℕ → Instruction → Bool
is_described_call l entries (instr.CallAdapter id) = is_import (adapter_at l id) && has_number id entries
is_described_call l entries other = true

-- ---- adapters with code

-- one result, or none
abbrev pub is_few : {A : Type 0} → List A → Bool
is_few results = nat_le (length results) 1

-- one export is called, and no import
abbrev pub calls_export : List Instruction → Bool
calls_export code = count_by is_export_call code == 1 && not (list_any is_import_call code)

-- one import is called, and no export
unfoldable pub calls_one_import : List Instruction → Bool
calls_one_import code = count_by is_import_call code == 1 && not (list_any is_export_call code)

-- one import is called, which is described, and no export
abbrev pub calls_import : Lowered → List ℕ → List Instruction → Bool
calls_import l entries code = calls_one_import code && list_all (is_described_call l entries) code

-- a result is written to room that a caller took
unfoldable pub writes_result : Instruction → Bool
writes_result (instr.StoreRetptr offset ty memory) = true
writes_result other = false

-- one export is called, and no import, and no result is written to room of a caller
abbrev pub is_outward : List Instruction → Bool
is_outward code = calls_export code && not (list_any writes_result code)

-- values of these kinds are passed to an export, and its result comes back as a JavaScript value
unfoldable pub fits_outward : Lowered → Environment → (params : List Kind) → Adapter → Bool
fits_outward l environment params a =
    (is_few a.results && is_outward (code_of a.kind)) && is_well_stacked l environment params (js_kinds a.results) (code_of a.kind)

-- a code passes values of these kinds, and leaves those of these
abbrev pub passes_kinds : Lowered → Environment → List Instruction → (params results : Option (List Kind)) → Bool
passes_kinds l environment code (Some params) (Some results) = is_well_stacked l environment params results code
passes_kinds l environment code params results = false

-- as many arguments and results as the type of the import has
abbrev pub has_counts : Adapter → FuncType → Bool
has_counts a ty = (length a.args == length ty.params && length a.results == length ty.results) && is_few ty.results

-- the values of an import's type are passed to what is described, and its result comes back as one of that type
unfoldable pub fits_inward : Lowered → Environment → (entries : List ℕ) → Adapter → FuncType → Bool
fits_inward l environment entries a ty =
    ((has_code a.kind && has_counts a ty) && calls_import l entries (code_of a.kind))
    && passes_kinds l environment (code_of a.kind) (kinds_of ty.params) (kinds_of ty.results)
