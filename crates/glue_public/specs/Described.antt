-- What a description asks to be put into an export tree, and the tree that it makes.
use Rattle.std.specs.Prelude.{◌≡◌, ◌⊎◌, ℕ, Bool, true, false, List, [], ◌∷◌, ◌++◌, filter, map, None}
use Rattle.std.specs.List.{zip}
use Rattle.std.specs.Ordering.{nat_cmp}
use Rattle.std.specs.Cmp.Lexicographic.{slice_cmp}
use Rattle.values.specs.Map.{look_up}
use Rattle.glue_words.specs.declared.item.Item.{Item}
use Rattle.glue_words.specs.declared.item.Thing.TheVariants as thing
use Rattle.glue_shared.specs.Paths.{qualified_name}
use Rattle.glue_shared.specs.contracts.import.JsImportNameOrd.TheImpl as by_fields
use Rattle.glue_shared.specs.declared.aux.AuxEnum.{AuxEnum}
use Rattle.glue_shared.specs.declared.aux.AuxExport.{AuxExport}
use Rattle.glue_shared.specs.declared.aux.WasmBindgenAux.{WasmBindgenAux}
use Rattle.glue_shared.specs.declared.import.JsImport.{JsImport}
use Rattle.glue_shared.specs.declared.import.JsImportName.{JsImportName}
use Rattle.glue_shared.specs.declared.import.JsImportName.TheVariants as names
use Rattle.glue_shared.specs.declared.name_map.NameMap.{NameMap}
use Rattle.glue_exports.specs.declared.tree.ExportFault.{ExportFault}
use Rattle.glue_exports.specs.declared.tree.ExportFault.TheVariants as faults
use Rattle.glue_exports.specs.Enums as enums
use Rattle.glue_exports.specs.Printed.{value_or}
use Rattle.glue_exports.specs.Tree.{Entry, clashes, defined}
use Rattle.glue_published.specs.Things.{stands_alone}
use Rattle.glue_public.specs.declared.definitions.PublicDefinition.{PublicDefinition}

-- the identifier of a function and the items that declare it
abbrev pub FunctionItems : Type 0
FunctionItems = List ℕ × List Item

-- a name, its import, and whether it is declared in TypeScript
abbrev pub Reexport : Type 0
Reexport = List ℕ × JsImport × Bool

-- ---- functions

-- the functions that stand by themselves
abbrev pub lone_functions : List AuxExport → List AuxExport
lone_functions exports = filter (λ e. stands_alone e.kind) exports

abbrev pub function_definition : AuxExport → FunctionItems → PublicDefinition
function_definition e f = record {
  namespace = e.namespace;
  name = e.name;
  definition = record { thing = thing.Adapter e.adapter; identifier = f.0; items = f.1; private = false; parent = None };
}

-- each of these with its items, as far as both lists go
abbrev pub zipped : List AuxExport → List FunctionItems → List PublicDefinition
zipped lone functions = map (λ (p : AuxExport × FunctionItems). function_definition p.0 p.1) (zip lone functions)

-- ---- enums

-- the name that an enum was given, or its qualified name
abbrev pub enum_name : List (List ℕ × List ℕ) → AuxEnum → List ℕ
enum_name given e =
    let qualified = qualified_name e.namespace e.name in value_or qualified (look_up (slice_cmp nat_cmp) given qualified)

abbrev pub enum_definition : List (List ℕ × List ℕ) → AuxEnum → PublicDefinition
enum_definition given e =
    record { namespace = e.namespace; name = e.name; definition = enums.enum_definition e (enum_name given e) }

-- ---- re-exports

-- the name that an import's name has by itself: that of the global, of the module's export, or of the value with prefixes
abbrev pub own_name : JsImportName → List ℕ
own_name (names.Global name) = name
own_name (names.Module from name) = name
own_name (names.LocalModule from name) = name
own_name (names.InlineJs from index name) = name
own_name (names.VendorPrefixed name prefixes) = name

-- the name that an import was given, or its own
abbrev pub import_name : List (JsImportName × List ℕ) → JsImportName → List ℕ
import_name given name = value_or (own_name name) (look_up by_fields.ghosts.cmp given name)

-- a re-export stands at the top level
abbrev pub reexport_definition : List (JsImportName × List ℕ) → Reexport → PublicDefinition
reexport_definition given r = record {
  namespace = [];
  name = r.0;
  definition = record {
    thing = thing.Imported r.0;
    identifier = import_name given r.1.name;
    items = [];
    private = false;
    parent = None;
  };
}

-- ---- all of them

-- functions, enums and re-exports
abbrev pub described : WasmBindgenAux → NameMap → List FunctionItems → List PublicDefinition
described aux given functions =
    zipped (lone_functions aux.exports) functions
    ++ (map (enum_definition given.enums) aux.enums ++ map (reexport_definition given.imports) aux.reexports)

-- a definition at the path of its namespace and its name
abbrev pub entry_of : PublicDefinition → Entry
entry_of d = (d.namespace ++ d.name ∷ [], d.definition)

-- ---- the tree

-- a tree becomes another as these definitions are put in, one by one, none of which clashes with those before it
abbrev pub ArePut : List PublicDefinition → List Entry → List Entry → Type 0
ArePut [] tree new = new ≡ tree
ArePut (d ∷ definitions) tree new =
    (clashes tree (entry_of d).0 d.definition ≡ false) × ArePut definitions (defined tree (entry_of d).0 d.definition) new

-- the first of these definitions that clashes with those before it, which are put in, has this name
abbrev pub IsRefused : List PublicDefinition → List Entry → List ℕ → Type 0
IsRefused [] tree name = ⊥
IsRefused (d ∷ definitions) tree name =
    ((clashes tree (entry_of d).0 d.definition ≡ true) × (name ≡ d.name))
    ⊎ ((clashes tree (entry_of d).0 d.definition ≡ false)
    × IsRefused definitions (defined tree (entry_of d).0 d.definition) name)

-- none of these definitions clashes with those before it
abbrev pub AreUnclashed : List PublicDefinition → Type 0
AreUnclashed definitions = (name : List ℕ) → IsRefused definitions [] name → ⊥

-- why these definitions make no tree
abbrev pub IsCause : List PublicDefinition → List Entry → ExportFault → Type 0
IsCause definitions tree (faults.Clash name) = IsRefused definitions tree name
IsCause definitions tree faults.OutOfMemory = Unit {0}
