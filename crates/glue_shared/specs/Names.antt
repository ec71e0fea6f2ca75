-- Names of the outside, names that each glue file may bind, and imports that a glue file defines.
use Rattle.std.specs.Prelude.{ℕ, zero, suc, ◌+◌, ◌==◌, ◌&&◌, ◌||◌, not, Bool, true, false, List, [], ◌∷◌, ◌++◌, map, codes, if◌then◌else◌, Option, Some, None, option_map, bytes_eq, is_some}
use Rattle.std.specs.Fmt.{decimal}
use Rattle.std.specs.List.{list_any, list_all, flat_map, find, count_by}
use Rattle.std.specs.Ordering.{nat_cmp}
use Rattle.values.specs.Map.{look_up}
use Rattle.wasm_core.specs.ids.ImportId.{ImportId}
use Rattle.wasm_core.specs.Contents.{Contents}
use Rattle.wasm_core.specs.declared.types.Import.{Import}
use Rattle.wasm_core.specs.declared.types.Memory.{Memory}
use Rattle.glue_shared.specs.declared.adapter.Adapter.{Adapter}
use Rattle.glue_shared.specs.declared.adapter.AdapterJsImportKind.TheVariants as call
use Rattle.glue_shared.specs.declared.adapter.AdapterKind.{AdapterKind}
use Rattle.glue_shared.specs.declared.adapter.AdapterKind.TheVariants as kind
use Rattle.glue_shared.specs.declared.adapter.Instruction.{Instruction}
use Rattle.glue_shared.specs.declared.adapter.Instruction.TheVariants as step
use Rattle.glue_shared.specs.declared.adapter.NonstandardWitSection.{NonstandardWitSection}
use Rattle.glue_shared.specs.declared.aux.WasmBindgenAux.{WasmBindgenAux}
use Rattle.glue_shared.specs.declared.import.AuxImport.{AuxImport}
use Rattle.glue_shared.specs.declared.import.AuxImport.TheVariants as what
use Rattle.glue_shared.specs.declared.import.AuxValue.{AuxValue}
use Rattle.glue_shared.specs.declared.import.AuxValue.TheVariants as value
use Rattle.glue_shared.specs.declared.import.JsImport.{JsImport}
use Rattle.glue_shared.specs.declared.import.JsImportName.{JsImportName}
use Rattle.glue_shared.specs.declared.import.JsImportName.TheVariants.{Global, Module, LocalModule, InlineJs, VendorPrefixed}
use Rattle.glue_shared.specs.declared.names.TheConstants.{HOSTS, EMSCRIPTEN_HOSTS, HELPER_NAMES, MEMORY_NAMES, TABLE_NAMES, TARGET_NAMES}
use Rattle.glue_shared.specs.declared.settings.Settings.{Settings}
use Rattle.glue_shared.specs.declared.settings.Target.{Target}
use Rattle.glue_shared.specs.declared.settings.Target.TheVariants as target

-- one of these names
abbrev pub is_one_of : List (List ℕ) → List ℕ → Bool
is_one_of names name = list_any (λ n. bytes_eq n name) names

-- ---- names of the outside

-- the name that an import of a value begins with
abbrev pub value_import : AuxValue → JsImport
value_import (value.Bare js) = js
value_import (value.Getter js field) = js
value_import (value.ClassGetter js field) = js
value_import (value.Setter js field) = js
value_import (value.ClassSetter js field) = js

-- the name that an import begins with, where it begins with one
abbrev pub js_import : AuxImport → Option JsImport
js_import (what.Value v) = Some (value_import v)
js_import (what.ValueWithThis js name) = Some js
js_import (what.Instanceof js) = Some js
js_import (what.Static js optional) = Some js
js_import (what.String text) = None
js_import (what.Cast comment) = None
js_import (what.StructuralMethod name) = None
js_import (what.StructuralGetter name) = None
js_import (what.StructuralSetter name) = None
js_import (what.StructuralClassGetter js name) = Some js
js_import (what.StructuralClassSetter js name) = Some js
js_import (what.IndexingGetterOfClass js) = Some js
js_import (what.IndexingSetterOfClass js) = Some js
js_import (what.IndexingDeleterOfClass js) = Some js
js_import what.IndexingGetterOfObject = None
js_import what.IndexingSetterOfObject = None
js_import what.IndexingDeleterOfObject = None
js_import (what.WrapInExportedClass class) = None
js_import (what.UnwrapExportedClass class) = None
js_import (what.LinkTo path content) = None
js_import (what.Intrinsic i) = None

-- the name, if there is one
abbrev pub names_of : Option JsImport → List JsImportName
names_of None = []
names_of (Some js) = js.name ∷ []

-- the names that imports and re-exports begin with, used or not
abbrev pub described_names : WasmBindgenAux → List JsImportName
described_names aux = flat_map (λ i. names_of (js_import i.1)) aux.imports ++ map (λ r. r.1.name) aux.reexports

-- names of the outside that a described name brings: a name from a module only where imports are left out
abbrev pub described_hosts : Bool → JsImportName → List (List ℕ)
described_hosts omitted (Global name) = name ∷ []
described_hosts omitted (Module from name) = if omitted then name ∷ [] else []
described_hosts omitted (LocalModule from name) = if omitted then name ∷ [] else []
described_hosts omitted (InlineJs from index name) = if omitted then name ∷ [] else []
described_hosts omitted (VendorPrefixed name prefixes) = name ∷ map (λ prefix. prefix ++ name) prefixes

-- names of the outside that a target has beside those of each target
abbrev pub target_hosts : Target → List (List ℕ)
target_hosts (target.Bundler browser_only) = []
target_hosts target.Web = []
target_hosts (target.NoModules global) = []
target_hosts (target.Node es_module) = []
target_hosts target.Deno = []
target_hosts target.Module = []
target_hosts target.Emscripten = map (λ w. w.now) EMSCRIPTEN_HOSTS

abbrev pub is_node : Target → Bool
is_node (target.Bundler browser_only) = false
is_node target.Web = false
is_node (target.NoModules global) = false
is_node (target.Node es_module) = true
is_node target.Deno = false
is_node target.Module = false
is_node target.Emscripten = false

-- `inspect` of Node's module `util`, which an inspectable class uses, where imports are left out
abbrev pub inspect_names : Settings → WasmBindgenAux → List (List ℕ)
inspect_names settings aux = if settings.omit_imports && (is_node settings.target && list_any (λ s. s.inspectable) aux.structs) then codes "inspect" ∷ [] else []

-- names of the outside
unfoldable pub host_names : Settings → WasmBindgenAux → List (List ℕ)
host_names settings aux =
    map (λ w. w.now) HOSTS
    ++ (target_hosts settings.target
    ++ (flat_map (described_hosts settings.omit_imports) (described_names aux)
    ++ inspect_names settings aux))

-- ---- names that each glue file may bind

-- each name with the place of each entry, the first of which has this place
abbrev pub placed_names : {A : Type 0} → List (List ℕ) → ℕ → List (Option A) → List (List ℕ)
placed_names stems place [] = []
placed_names stems place (None ∷ entries) = placed_names stems (place + 1) entries
placed_names stems place (Some entry ∷ entries) = map (λ stem. stem ++ decimal place) stems ++ placed_names stems (place + 1) entries

-- `import` with each number up to this one
abbrev pub import_names : ℕ → List (List ℕ)
import_names zero = (codes "import" ++ decimal zero) ∷ []
import_names (suc n) = (codes "import" ++ decimal (suc n)) ∷ import_names n

-- how many entries there are
abbrev pub live_count : {A : Type 0} → List (Option A) → ℕ
live_count entries = count_by is_some entries

-- the global of a script
abbrev pub global_names : Target → List (List ℕ)
global_names (target.Bundler browser_only) = []
global_names target.Web = []
global_names (target.NoModules global) = global ∷ []
global_names (target.Node es_module) = []
global_names target.Deno = []
global_names target.Module = []
global_names target.Emscripten = []

-- names that helpers bind
unfoldable pub helper_names : Contents → List (List ℕ)
helper_names m =
    map (λ w. w.now) HELPER_NAMES
    ++ (placed_names (map (λ w. w.now) MEMORY_NAMES) 0 m.memories
    ++ placed_names (map (λ w. w.now) TABLE_NAMES) 0 m.tables)

-- names that helpers and the texts of targets bind
unfoldable pub fixed_names : Settings → Contents → List (List ℕ)
fixed_names settings m =
    map (λ w. w.now) TARGET_NAMES
    ++ (helper_names m
    ++ (import_names (live_count m.imports)
    ++ global_names settings.target))

-- ---- fixed public names

-- names that the texts of a target publish
abbrev pub published_names : Target → List (List ℕ)
published_names (target.Bundler browser_only) = codes "__wbg_set_wasm" ∷ []
published_names target.Web = codes "initSync" ∷ codes "default" ∷ []
published_names (target.NoModules global) = codes "initSync" ∷ []
published_names (target.Node es_module) = []
published_names target.Deno = []
published_names target.Module = []
published_names target.Emscripten = []

-- names that what a target publishes has already: on no-modules it is a function
abbrev pub standing_names : Target → List (List ℕ)
standing_names (target.Bundler browser_only) = []
standing_names target.Web = []
standing_names (target.NoModules global) =
    codes "name" ∷ codes "length" ∷ codes "arguments" ∷ codes "caller" ∷ codes "constructor" ∷ []
standing_names (target.Node es_module) = []
standing_names target.Deno = []
standing_names target.Module = []
standing_names target.Emscripten = []

-- `__wasm`, where it is asked for
abbrev pub wasm_names : Settings → List (List ℕ)
wasm_names settings = if settings.debug || settings.export_wasm then codes "__wasm" ∷ [] else []

-- names that no public item may have, beside a bundler's imports
unfoldable pub fixed_public_names : Settings → List (List ℕ)
fixed_public_names settings =
    published_names settings.target ++ (standing_names settings.target ++ wasm_names settings)

-- ---- imports that the glue file defines

-- a step that passes on an integer or a truth as it is: the glue file takes it for one that changes no value
abbrev pub is_plain_cast : Instruction → Bool
is_plain_cast step.Int32ToWasm = true
is_plain_cast step.Int64ToWasm = true
is_plain_cast step.I32FromBool = true
is_plain_cast (step.WasmToInt32 unsigned) = not unsigned
is_plain_cast (step.WasmToInt64 unsigned) = not unsigned
is_plain_cast _ = false

-- the adapter that a code calls once, where the code is otherwise the arguments from the nth on, in order and before
-- the call, and steps that change no value
abbrev pub plain_call : ℕ → List Instruction → Option ℕ
plain_call n [] = None
plain_call n (step.ArgGet i ∷ steps) = if i == n then plain_call (n + 1) steps else None
plain_call n (step.CallAdapter adapter ∷ steps) = if list_all is_plain_cast steps then Some adapter else None
plain_call n (s ∷ steps) = if is_plain_cast s then plain_call n steps else None

-- a name from a module
abbrev pub is_from_module : JsImportName → Bool
is_from_module (Global name) = false
is_from_module (Module from name) = true
is_from_module (LocalModule from name) = true
is_from_module (InlineJs from index name) = true
is_from_module (VendorPrefixed name prefixes) = false

-- a list with no items
abbrev pub is_none : {A : Type 0} → List A → Bool
is_none [] = true
is_none (x ∷ xs) = false

-- the name of a module that an import is described as, with the properties that are read from it
abbrev pub module_name : Option AuxImport → Option JsImport
module_name (Some (what.Value (value.Bare js))) = if is_from_module js.name then Some js else None
module_name other = None

-- the first entry with this id
abbrev pub entry_of : {A : Type 0} → ℕ → List (ℕ × A) → Option A
entry_of id es = option_map (λ e. e.1) (find (λ e. e.0 == id) es)

-- the adapter with this id, if it is a call of the kind `Normal`
abbrev pub is_normal_call : Option Adapter → Bool
is_normal_call None = false
is_normal_call (Some a) = is_normal a.kind
  where
    is_normal : AdapterKind → Bool
    is_normal (kind.Local code) = false
    is_normal (kind.Import call.Normal) = true
    is_normal (kind.Import call.Method) = false
    is_normal (kind.Import call.Constructor) = false

-- one of these numbers
abbrev pub has_number : ℕ → List ℕ → Bool
has_number n ns = list_any (λ k. k == n) ns

-- the name of a module that a called adapter is described as, where it is called as a function with its arguments as they are
abbrev pub callee_name : NonstandardWitSection → WasmBindgenAux → Option ℕ → Option JsImport
callee_name wit aux None = None
callee_name wit aux (Some callee) =
    if is_normal_call (look_up nat_cmp wit.adapters callee) && not (has_number callee aux.imports_with_variadic)
    then module_name (entry_of callee aux.imports) else None

-- the code of an adapter, none where it is a call
abbrev pub code_of : Option Adapter → List Instruction
code_of None = []
code_of (Some a) = steps a.kind
  where
    steps : AdapterKind → List Instruction
    steps (kind.Local code) = code
    steps (kind.Import form) = []

abbrev pub is_emscripten : Target → Bool
is_emscripten (target.Bundler browser_only) = false
is_emscripten target.Web = false
is_emscripten (target.NoModules global) = false
is_emscripten (target.Node es_module) = false
is_emscripten target.Deno = false
is_emscripten target.Module = false
is_emscripten target.Emscripten = true

-- the name of a module that the adapter of an import does nothing but hand on to
abbrev pub handed_name : Settings → NonstandardWitSection → WasmBindgenAux → ℕ → Option JsImport
handed_name settings wit aux adapter =
    if is_emscripten settings.target || (has_number adapter aux.imports_with_catch || aux.legacy_exception_handling) then None
    else callee_name wit aux (plain_call 0 (code_of (look_up nat_cmp wit.adapters adapter)))

-- a name of which no property is read
abbrev pub is_whole : Option JsImport → Bool
is_whole None = false
is_whole (Some js) = is_none js.fields

-- an import whose adapter this is can be the described name itself
abbrev pub is_direct : Settings → NonstandardWitSection → WasmBindgenAux → ℕ → Bool
is_direct settings wit aux adapter = is_whole (handed_name settings wit aux adapter)

-- a name of which a property is read
abbrev pub part_of : Option JsImport → Option JsImport
part_of None = None
part_of (Some js) = if is_none js.fields then None else Some js

-- the name of a module and the properties that are read from it, at least one, where the adapter of an import does nothing but hand on to it
abbrev pub handed_part : Settings → NonstandardWitSection → WasmBindgenAux → ℕ → Option JsImport
handed_part settings wit aux adapter = part_of (handed_name settings wit aux adapter)

-- the adapter that the first of these pairs gives the import at a place
abbrev pub adapter_for : List (ImportId × ℕ) → ℕ → Option ℕ
adapter_for pairs place = option_map (λ pair. pair.1) (find (λ pair. pair.0.0 == place) pairs)

-- the places of the imports that adapters stand for
abbrev pub implemented : NonstandardWitSection → List ℕ
implemented wit = map (λ pair. pair.0.0) wit.implements

-- an adapter defines the import at a place
abbrev pub is_implemented : NonstandardWitSection → ℕ → Bool
is_implemented wit place = list_any (λ pair. pair.0.0 == place) wit.implements

-- the described name itself can be the import at a place, since an adapter that defines it only hands on
abbrev pub is_handed_on : Settings → NonstandardWitSection → WasmBindgenAux → ℕ → Bool
is_handed_on settings wit aux place = list_any (λ pair. pair.0.0 == place && is_direct settings wit aux pair.1) wit.implements

-- the place is the one that is named
abbrev pub is_place : ℕ → Option ImportId → Bool
is_place place None = false
is_place place (Some id) = id.0 == place

-- the import at a place brings in the memory
abbrev pub is_imported_at : ℕ → Memory → Bool
is_imported_at place memory = is_place place memory.import

-- the import at a place brings in the first memory
abbrev pub is_first_of : ℕ → List (Option Memory) → Bool
is_first_of place [] = false
is_first_of place (None ∷ entries) = is_first_of place entries
is_first_of place (Some memory ∷ entries) = is_imported_at place memory

-- the glue file defines the import
abbrev pub is_own : Settings → Contents → NonstandardWitSection → WasmBindgenAux → ℕ → Import → Bool
is_own settings m wit aux place import =
    (bytes_eq import.«module» (codes "__wbindgen_placeholder__")
    || (is_implemented wit place
    || (not (is_emscripten settings.target) && is_first_of place m.memories)))
    && not (is_handed_on settings wit aux place)

-- the place of an import that passes the test
abbrev pub own_place : (ℕ → Import → Bool) → ℕ → Option Import → List ℕ
own_place own place None = []
own_place own place (Some import) = if own place import then place ∷ [] else []

-- the places, from this one on, of the imports that pass the test
abbrev pub own_places : (ℕ → Import → Bool) → ℕ → List (Option Import) → List ℕ
own_places own place [] = []
own_places own place (import ∷ imports) = own_place own place import ++ own_places own (place + 1) imports

-- the places of the imports that the glue file defines
unfoldable pub own_imports : Settings → Contents → NonstandardWitSection → WasmBindgenAux → List ℕ
own_imports settings m wit aux = own_places (is_own settings m wit aux) 0 m.imports

-- the name of the import at a place, if one stands there
abbrev pub name_at : ℕ → List (Option Import) → List (List ℕ)
name_at place [] = []
name_at zero (None ∷ imports) = []
name_at zero (Some import ∷ imports) = import.name ∷ []
name_at (suc place) (entry ∷ imports) = name_at place imports

-- the names of the imports that the glue file defines
unfoldable pub own_names : Settings → Contents → NonstandardWitSection → WasmBindgenAux → List (List ℕ)
own_names settings m wit aux = flat_map (λ place. name_at place m.imports) (own_imports settings m wit aux)

-- names that a target's items publish beside those of its texts: on the bundler those of own imports, since `__wasm`
-- stands in the entry there
abbrev pub further_names : Target → (own wasm : List (List ℕ)) → List (List ℕ)
further_names (target.Bundler browser_only) own wasm = own
further_names target.Web own wasm = wasm
further_names (target.NoModules global) own wasm = wasm
further_names (target.Node es_module) own wasm = wasm
further_names target.Deno own wasm = wasm
further_names target.Module own wasm = wasm
further_names target.Emscripten own wasm = wasm

-- names that items publish beside the public tree
abbrev pub fixed_public : Settings → Contents → NonstandardWitSection → WasmBindgenAux → List (List ℕ)
fixed_public settings m wit aux =
    published_names settings.target
    ++ further_names settings.target (own_names settings m wit aux) (wasm_names settings)
