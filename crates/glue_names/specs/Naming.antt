-- Names that can't stand where they would have to, and things of one name.
use Rattle.std.specs.Prelude.{ℕ, Bool, false, not, ◌&&◌, is_some, List, [], ◌∷◌, Option, Some, None, option_map, option_and_then, find}
use Rattle.std.specs.List.{list_any}
use Rattle.std.specs.Option.{option_or}
use Rattle.std.specs.Str.{bytes_eq}
use Rattle.wasm_core.specs.Contents.{Contents}
use Rattle.wasm_core.specs.ids.ExportId.{ExportId}
use Rattle.wasm_core.specs.ids.FuncId.{FuncId}
use Rattle.wasm_core.specs.entries.Export.{Export}
use Rattle.glue_words.specs.Ident.{is_ident}
use Rattle.glue_shared.specs.declared.aux.AuxStringEnum.{AuxStringEnum}
use Rattle.glue_shared.specs.declared.import.AuxImport.{AuxImport}
use Rattle.glue_shared.specs.declared.import.JsImport.{JsImport}
use Rattle.glue_shared.specs.declared.import.JsImportName.{JsImportName}
use Rattle.glue_shared.specs.declared.settings.Settings.{Settings}
use Rattle.glue_shared.specs.declared.description.Lowered.{Lowered}
use Rattle.glue_shared.specs.Names.{is_one_of, js_import, names_of, described_names, described_hosts, fixed_names, own_names}
use Rattle.glue_faults.specs.declared.fault.Fault.{Fault}
use Rattle.glue_faults.specs.declared.fault.Fault.TheVariants as faults
use Rattle.glue_faults.specs.First.{first_of, first_some, where_true}
use Rattle.glue_faults.specs.Clash.{first_clash, first_clash_after}
use Rattle.glue_steps.specs.Resolving.{entry_at}
use Rattle.glue_published.specs.Named.{is_proto_name, bad_export_name, bad_declared_name}
use Rattle.glue_names.specs.declared.naming.TheConstants.{START}
use Rattle.printed_adapters.specs.declared.room.TheConstants.{SHIM}
use Rattle.glue_names.specs.Given.{closure_export, given_names, other_names, values_name}
use Rattle.printed_adapters.specs.Printed.{uses_shim}
use Rattle.glue_names.specs.Taken.{global_of, name_if}

-- ---- bad names

-- the name of the export after which the function of a closure's adapter is named, where it is no identifier
abbrev pub bad_closure : Contents → ExportId × ℕ → Option (List ℕ)
bad_closure m pair = find (λ name. not (is_ident name)) (closure_export m pair)

-- the first name of the outside that a described name brings, a global, a vendor's name with or without a prefix, or where imports are left
-- out a name from a module, and that is no identifier
abbrev pub bad_described : (omitted : Bool) → JsImportName → Option (List ℕ)
bad_described omitted name = find (λ host. not (is_ident host)) (described_hosts omitted name)

-- such a name of what an import begins with
abbrev pub bad_import : (omitted : Bool) → ℕ × AuxImport → Option (List ℕ)
bad_import omitted entry = first_of (bad_described omitted) (names_of (js_import entry.1))

-- the name of a string enum's values, where it is no identifier
unfoldable pub bad_values : AuxStringEnum → Option (List ℕ)
bad_values e = where_true (not (is_ident (values_name e))) (values_name e)

-- the name of a re-export, where it is `__proto__`, or such a name of what its import begins with
abbrev pub bad_reexported : (omitted : Bool) → List ℕ × JsImport × Bool → Option (List ℕ)
bad_reexported omitted r = option_or (where_true (is_proto_name r.0) r.0) (bad_described omitted r.1.name)

-- the first bad name: of exports after which functions of closures are named, described exports, imports, classes and enums, string enums, re-exports,
-- and `__proto__` among the names of the imports that the glue file defines
unfoldable pub bad_text : (omitted : Bool) → (own : List (List ℕ)) → Lowered → Option (List ℕ)
bad_text omitted own l = first_some (
    first_of (bad_closure l.«module») l.wit.exports
    ∷ bad_export_name l.aux.exports
    ∷ first_of (bad_import omitted) l.aux.imports
    ∷ bad_declared_name l.aux
    ∷ first_of bad_values l.aux.string_enums
    ∷ first_of (bad_reexported omitted) l.aux.reexports
    ∷ find is_proto_name own
    ∷ [])

-- a name can't stand where it would have to
abbrev pub bad_name : Settings → Lowered → Option Fault
bad_name settings l = option_map faults.BadName (bad_text settings.omit_imports (own_names settings l.«module» l.wit l.aux) l)

-- ---- names of the outside

-- the first name of the outside that a described name brings where imports are kept and that is taken, or the global, where that is given
abbrev pub taken_described : (taken given : List (List ℕ)) → JsImportName → Option (List ℕ)
taken_described taken given name = option_or (find (is_one_of taken) (described_hosts false name)) (name_if (is_one_of given) (global_of name))

-- the first described name such that a global, or a vendor's name with or without a prefix, is a name that the glue file may bind, or such
-- that a global is a given name of another kind
abbrev pub twice_described : Settings → Lowered → Option (List ℕ)
twice_described settings l =
    first_of (taken_described (fixed_names settings l.«module») (given_names settings.omit_imports l)) (described_names l.aux)

-- a name of the outside stands for something else too
abbrev pub global_twice : Settings → Lowered → Option Fault
global_twice settings l = option_map faults.GlobalTwice (twice_described settings l)

-- ---- things of one name

-- the words that a name asks for and tells: itself
abbrev pub one_word : List ℕ → List (List ℕ)
one_word name = name ∷ []

-- the words that an export asks for and tells: its name
abbrev pub export_words : Option Export → List (List ℕ)
export_words None = []
export_words (Some e) = e.name ∷ []

-- two exports of one name
abbrev pub same_export : Option Export → Option Export → Bool
same_export (Some earlier) (Some later) = bytes_eq earlier.name later.name
same_export earlier later = false

abbrev pub name_of : Option Export → List ℕ
name_of None = []
name_of (Some e) = e.name

-- the export has this name
abbrev pub is_called : List ℕ → Option Export → Bool
is_called name None = false
is_called name (Some e) = bytes_eq e.name name

-- the name under which a start function is exported
abbrev pub start_name : List ℕ
start_name = START.now

-- the name under which the function that moves the stack is exported
abbrev pub shim_name : List ℕ
shim_name = SHIM.now

-- the module has a start function, and it stands
abbrev pub has_start : Contents → Bool
has_start m = is_some (option_and_then (λ (f : FuncId). entry_at m.funcs f.0) m.start)

-- a given name is that of an earlier entry, or a name of the outside for another reason, or one that the glue file may bind
abbrev pub given_clash : Settings → Lowered → Option Fault
given_clash settings l =
    option_map faults.NameClash (first_clash_after bytes_eq (other_names settings l) (given_names settings.omit_imports l))

-- two of the imports that the glue file defines, which have these names, have one name
abbrev pub import_clash : List (List ℕ) → Option Fault
import_clash own = option_map faults.NameClash (first_clash bytes_eq own)

-- two exports of one name
abbrev pub wasm_clash : List (Option Export) → Option Fault
wasm_clash exports = option_map (λ e. faults.NameClash (name_of e)) (first_clash same_export exports)

-- an export of the name under which one is added, where that is
abbrev pub added_clash : (name : List ℕ) → (is_added : Bool) → Contents → Option Fault
added_clash name is_added m = where_true (is_added && list_any (is_called name) m.exports) (faults.NameClash name)

-- an export of the name under which the function that moves the stack is exported
abbrev pub shim_clash : Settings → Lowered → Option Fault
shim_clash settings l = added_clash shim_name (uses_shim settings l) l.«module»

-- an export of the name under which the start function is exported
abbrev pub start_clash : Contents → Option Fault
start_clash m = added_clash start_name (has_start m) m

-- two exports of the module have one name, or one has that of a function that is exported besides
abbrev pub export_clash : Settings → Lowered → Option Fault
export_clash settings l = first_some (wasm_clash l.«module».exports ∷ shim_clash settings l ∷ start_clash l.«module» ∷ [])

-- two things of the module that is written have one name
unfoldable pub written_clash : Settings → Lowered → Option Fault
written_clash settings l = option_or (import_clash (own_names settings l.«module» l.wit l.aux)) (export_clash settings l)

-- a given name stands for something else too, or two things of the module that is written have one name
unfoldable pub name_clash : Settings → Lowered → Option Fault
name_clash settings l = option_or (given_clash settings l) (written_clash settings l)
