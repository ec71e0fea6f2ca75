-- The first adapter that isn't what its place in the description asks for, and the first import that nothing defines.
use Rattle.std.specs.Prelude.{ℕ, ◌==◌, Bool, true, false, not, ◌&&◌, ◌||◌, is_some, List, [], ◌∷◌, length, map, take, codes, Option, Some, None, option_map, option_and_then, find}
use Rattle.std.specs.List.{list_any}
use Rattle.std.specs.Str.{bytes_eq}
use Rattle.wasm_core.specs.ids.ImportId.{ImportId}
use Rattle.wasm_core.specs.ids.ExportId.{ExportId}
use Rattle.wasm_core.specs.ids.FuncId.{FuncId}
use Rattle.wasm_core.specs.ids.TagId.{TagId}
use Rattle.wasm_core.specs.types.FuncType.{FuncType}
use Rattle.wasm_core.specs.declared.types.Import.{Import}
use Rattle.wasm_core.specs.declared.types.ImportKind.{ImportKind}
use Rattle.wasm_core.specs.declared.types.ImportKind.TheVariants as import_kinds
use Rattle.wasm_core.specs.Contents.{Contents}
use Rattle.glue_shared.specs.declared.adapter.Adapter.{Adapter}
use Rattle.glue_shared.specs.declared.adapter.AdapterType.{AdapterType}
use Rattle.glue_shared.specs.declared.adapter.NonstandardWitSection.{NonstandardWitSection}
use Rattle.glue_shared.specs.declared.aux.AuxExport.{AuxExport}
use Rattle.glue_shared.specs.declared.aux.AuxExportKind.{AuxExportKind}
use Rattle.glue_shared.specs.declared.aux.AuxExportKind.TheVariants as export_kinds
use Rattle.glue_shared.specs.declared.aux.AuxExportedMethodKind.TheVariants as methods
use Rattle.glue_shared.specs.declared.aux.AuxReceiverKind.{AuxReceiverKind}
use Rattle.glue_shared.specs.declared.aux.AuxReceiverKind.TheVariants as receivers
use Rattle.glue_shared.specs.declared.import.AuxImport.{AuxImport}
use Rattle.glue_shared.specs.declared.description.Lowered.{Lowered}
use Rattle.glue_shared.specs.declared.settings.Settings.{Settings}
use Rattle.glue_shared.specs.Names.{has_number, implemented, own_imports}
use Rattle.glue_steps.specs.Resolving.{entry_at, type_of}
use Rattle.glue_faults.specs.declared.fault.Fault.{Fault}
use Rattle.glue_faults.specs.declared.fault.Fault.TheVariants as faults
use Rattle.glue_faults.specs.First.{first_some, first_after}
use Rattle.glue_adapters.specs.declared.environment.Environment.{Environment}
use Rattle.glue_adapters.specs.declared.kind.Kind.{Kind}
use Rattle.glue_adapters.specs.Adapters.{adapter_at, has_code, is_local, is_import, fits_outward, fits_inward}
use Rattle.glue_adapters.specs.Called.{fits_import}
use Rattle.glue_adapters.specs.Stack.{closure_kinds, enum_names, export_type, js_kinds}

-- ---- the lists in which adapters stand

-- the adapters that stand for imports
abbrev pub paired : Lowered → List ℕ
paired l = map (λ pair. pair.1) l.wit.implements

-- the adapters that closures call
abbrev pub called_back : Lowered → List ℕ
called_back l = map (λ pair. pair.1) l.wit.exports

-- the import adapters that are described
abbrev pub described : Lowered → List ℕ
described l = map (λ entry. entry.0) l.aux.imports

-- what instructions may refer to: all string enums that are described, and all adapters that closures call
abbrev pub environment_of : Lowered → Environment
environment_of l = record { enums = enum_names l; closures = called_back l }

-- ---- adapters with code

-- the kinds of the parameters of an adapter with code that stands for no import: of one that closures call or not
abbrev pub outward_kinds : (is_called_back : Bool) → List AdapterType → List Kind
outward_kinds true tys = closure_kinds tys
outward_kinds false tys = js_kinds tys

-- an adapter has code, stands for no import, and isn't fit for a closure, where closures call it, or for an export else
unfoldable pub is_bad_code : Lowered → Environment → (pairs : List ℕ) → ℕ × Adapter → Bool
is_bad_code l environment pairs entry =
    has_code entry.1.kind
    && (not (has_number entry.0 pairs) && not (fits_outward l environment (outward_kinds (has_number entry.0 environment.closures) entry.1.args) entry.1))

-- ---- adapters that stand for imports

-- the type of an imported function
abbrev pub import_type : Contents → ImportKind → Option FuncType
import_type m (import_kinds.Func func) = type_of m func.0
import_type m other = None

-- the type of the function that is imported at a place
abbrev pub imported_type : Contents → ℕ → Option FuncType
imported_type m place = option_and_then (λ (i : Import). import_type m i.kind) (entry_at m.imports place)

abbrev pub fits_type : Lowered → Environment → (entries : List ℕ) → Option FuncType → Option Adapter → Bool
fits_type l environment entries (Some ty) (Some a) = fits_inward l environment entries a ty
fits_type l environment entries ty a = false

-- the adapter passes the values of the function that is imported
unfoldable pub fits_pair : Lowered → Environment → (entries : List ℕ) → ImportId × ℕ → Bool
fits_pair l environment entries pair = fits_type l environment entries (imported_type l.«module» pair.0.0) (adapter_at l pair.1)

-- the import or the adapter is one of these, or the two don't fit
abbrev pub is_repeated_pair : Lowered → Environment → (entries places ids : List ℕ) → ImportId × ℕ → Bool
is_repeated_pair l environment entries places ids pair =
    (has_number pair.0.0 places || has_number pair.1 ids) || not (fits_pair l environment entries pair)

-- the import or the adapter stands in an earlier pair, or the two don't fit
unfoldable pub is_bad_pair : Lowered → Environment → (entries : List ℕ) → (before : List (ImportId × ℕ)) → ImportId × ℕ → Bool
is_bad_pair l environment entries before pair = is_repeated_pair l environment entries (map (λ p. p.0.0) before) (map (λ p. p.1) before) pair

-- ---- adapters that closures call

-- the export is no function, the adapter has no code, or it stands for an import
unfoldable pub is_bad_callback : Lowered → List ℕ → ExportId × ℕ → Bool
is_bad_callback l pairs pair =
    not (is_some (export_type l.«module» pair.0.0)) || (not (is_local (adapter_at l pair.1)) || has_number pair.1 pairs)

-- ---- exports

-- no names, or one for each parameter
abbrev pub names_fit : List (List ℕ) → ℕ → Bool
names_fit [] count = true
names_fit (name ∷ names) count = length (name ∷ names) == count

abbrev pub is_free : AuxReceiverKind → Bool
is_free receivers.None = true
is_free receivers.Borrowed = false
is_free receivers.Owned = false

-- A function has no class, and neither has it nor a constructor a receiver. A constructor gives its object, a getter takes nothing and
-- gives one value, a setter takes one and gives none; neither takes a rest parameter.
abbrev pub fits_kind : AuxExportKind → AuxExport → Adapter → Bool
fits_kind export_kinds.Function e a = is_free e.receiver && not (is_some e.class)
fits_kind export_kinds.FunctionThis e a = is_free e.receiver && not (is_some e.class)
fits_kind export_kinds.Constructor e a = is_free e.receiver && length a.results == 1
fits_kind (export_kinds.Method methods.Method) e a = true
fits_kind (export_kinds.Method methods.Getter) e a = not e.variadic && (length a.args == 0 && length a.results == 1)
fits_kind (export_kinds.Method methods.Setter) e a = not e.variadic && (length a.args == 1 && length a.results == 0)

abbrev pub fits_described : AuxExport → Option Adapter → Bool
fits_described e None = false
fits_described e (Some a) = has_code a.kind && (names_fit e.args (length a.args) && fits_kind e.kind e a)

-- the adapter has code, and is what the export is described as
unfoldable pub fits_export : Lowered → AuxExport → Bool
fits_export l e = fits_described e (adapter_at l e.adapter)

-- the adapter is one of these, or isn't what the export is described as
abbrev pub is_repeated_export : Lowered → List ℕ → List ℕ → List ℕ → AuxExport → Bool
is_repeated_export l pairs callbacks ids e = (has_number e.adapter ids || (has_number e.adapter pairs || has_number e.adapter callbacks)) || not (fits_export l e)

-- the adapter stands in an earlier export or in another list, or isn't what the export is described as
unfoldable pub is_bad_export : Lowered → List ℕ → List ℕ → List AuxExport → AuxExport → Bool
is_bad_export l pairs callbacks before e = is_repeated_export l pairs callbacks (map (λ other. other.adapter) before) e

-- ---- imports

-- no adapter calls the import as it asks for, where the last arguments of these adapters are spread
unfoldable pub is_bad_entry : Lowered → List ℕ → ℕ × AuxImport → Bool
is_bad_entry l spread entry = not (fits_import (has_number entry.0 spread) entry.1 (adapter_at l entry.0))

-- ---- adapters in lists of ids

-- the adapter has no code
unfoldable pub lacks_code : Lowered → ℕ → Bool
lacks_code l id = not (is_local (adapter_at l id))

-- the adapter is no call of an import
unfoldable pub lacks_call : Lowered → ℕ → Bool
lacks_call l id = not (is_import (adapter_at l id))

-- ---- the first of these, in the description's order

-- the first of the adapters
unfoldable pub bad_local : Lowered → Environment → Option ℕ
bad_local l environment = option_map (λ entry. entry.0) (find (is_bad_code l environment (paired l)) l.wit.adapters)

-- of the pairs
unfoldable pub bad_paired : Lowered → Environment → Option ℕ
bad_paired l environment = option_map (λ pair. pair.1) (first_after (is_bad_pair l environment (described l)) [] l.wit.implements)

-- of the adapters that closures call
unfoldable pub bad_called : Lowered → Option ℕ
bad_called l = option_map (λ pair. pair.1) (find (is_bad_callback l (paired l)) l.wit.exports)

-- of the exports
unfoldable pub bad_exported : Lowered → Environment → Option ℕ
bad_exported l environment = option_map (λ e. e.adapter) (first_after (is_bad_export l (paired l) environment.closures) [] l.aux.exports)

-- of the imports
unfoldable pub bad_described : Lowered → Option ℕ
bad_described l = option_map (λ entry. entry.0) (find (is_bad_entry l l.aux.imports_with_variadic) l.aux.imports)

-- of the adapters whose throws are caught, and of those whose last argument is spread
unfoldable pub bad_listed : Lowered → Option ℕ
bad_listed l = first_some (find (lacks_code l) l.aux.imports_with_catch ∷ find (lacks_call l) l.aux.imports_with_variadic ∷ [])

unfoldable pub bad_id : Lowered → Environment → Option ℕ
bad_id l environment = first_some (
    bad_local l environment
    ∷ bad_paired l environment
    ∷ bad_called l
    ∷ bad_exported l environment
    ∷ bad_described l
    ∷ bad_listed l
    ∷ [])

-- an adapter isn't what its place in the description asks for
abbrev pub bad_adapter : Lowered → Option Fault
bad_adapter l = option_map faults.BadAdapter (bad_id l (environment_of l))

-- ---- imports that nothing defines

-- an import of the module of placeholders
abbrev pub is_placeholder : Option Import → Bool
is_placeholder None = false
is_placeholder (Some i) = bytes_eq i.«module» (codes "__wbindgen_placeholder__")

-- a part is the entry of this id
abbrev pub is_id : ℕ → Option ℕ → Bool
is_id id None = false
is_id id (Some part) = part == id

-- What an import brings in is defined by the glue file, whatever is described: the first memory, the tags of exceptions, and the
-- function that throws again.
abbrev pub is_fixed_kind : Lowered → List ℕ → ImportKind → Bool
is_fixed_kind l name (import_kinds.Memory memory) = not (list_any is_some (take memory.0 l.«module».memories))
is_fixed_kind l name (import_kinds.Tag tag) =
    bytes_eq name (codes "__wbindgen_jstag") || is_id tag.0 (option_map (λ (part : TagId). part.0) l.aux.wrapped_js_tag)
is_fixed_kind l name (import_kinds.Func func) = is_id func.0 (option_map (λ (part : FuncId). part.0) l.aux.rethrow_critical)
is_fixed_kind l name other = false

-- the glue file defines the import, whatever is described
abbrev pub is_fixed_import : Lowered → Option Import → Bool
is_fixed_import l None = false
is_fixed_import l (Some i) = is_fixed_kind l i.name i.kind

-- no adapter stands for the import at the place (the places of which are these), and the glue file defines it only if it is described
unfoldable pub is_unbound : Lowered → List ℕ → ℕ → Bool
is_unbound l defined place = not (has_number place defined) && not (is_fixed_import l (entry_at l.«module».imports place))

-- one of the imports that the glue file defines, for which no adapter stands, and which isn't defined whatever is described
abbrev pub unbound_import : Settings → Lowered → Option Fault
unbound_import settings l =
    option_map (λ place. faults.UnboundImport (record { 0 = place })) (find (is_unbound l (implemented l.wit)) (own_imports settings l.«module» l.wit l.aux))
