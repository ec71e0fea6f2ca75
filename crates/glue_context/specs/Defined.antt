-- Each own import has exactly one definition, by its adapter or by a memory, each function that is printed is that of its adapter, and each closure
-- that is made has its function.
use Rattle.std.specs.Prelude.{◌≡◌, ℕ, Bool, List, [], ◌∷◌, Option, Some, None}
use Rattle.std.specs.List.{flat_map}
use Rattle.values.specs.Lists.{IsIn, AreDistinct}
use Rattle.wasm_core.specs.Contents.{Contents}
use Rattle.wasm_core.specs.entries.Export.{Export}
use Rattle.wasm_core.specs.entries.ExportItem.{ExportItem}
use Rattle.wasm_core.specs.declared.types.Import.{Import}
use Rattle.wasm_core.specs.declared.types.Memory.{Memory}
use Rattle.glue_words.specs.declared.item.Item.{Item}
use Rattle.glue_words.specs.declared.item.Role.{Role}
use Rattle.glue_words.specs.declared.item.Role.TheVariants as role
use Rattle.glue_words.specs.declared.item.Thing.TheVariants as thing
use Rattle.glue_words.specs.Linking.{EachItem}
use Rattle.glue_words.specs.Names.{bound_in}
use Rattle.glue_tree.specs.declared.tree.JsFunction.{JsFunction}
use Rattle.glue_shared.specs.declared.aux.AuxExport.{AuxExport}
use Rattle.glue_shared.specs.declared.import.JsImport.{JsImport}
use Rattle.glue_shared.specs.declared.settings.Settings.{Settings}
use Rattle.glue_shared.specs.declared.description.Lowered.{Lowered}
use Rattle.glue_shared.specs.declared.name_map.NameMap.{NameMap}
use Rattle.glue_shared.specs.Names.{adapter_for, handed_part, own_imports}
use Rattle.glue_check.specs.Unbuilt.{memory_of}
use Rattle.glue_steps.specs.Resolving.{callback_name, entry_at, export_named}
use Rattle.printed_adapters.specs.Printed.{used_closures}
use Rattle.taken_items.specs.Asked.{asked_items}
use Rattle.glue_naming.specs.Naming.{declared_name}
use Rattle.glue_context.specs.ClosureItems.{IsClosureItem}
use Rattle.glue_context.specs.DefinedItems.{memory_words, part_words, value_item}
use Rattle.glue_context.specs.ExportedItems.{declaration_words, note_lines}
use Rattle.glue_context.specs.Functions.{IsFunctionOf, form_of, usual_form}
use Rattle.glue_context.specs.Handing.{define_item, names_around, throws_of}

-- the imports that an item of a role defines: one, or none
abbrev pub defined_by : Role → List ℕ
defined_by (role.Define place) = place ∷ []
defined_by other = []

abbrev pub defined_places : List Item → List ℕ
defined_places items = flat_map (λ (item : Item). defined_by item.role) items

-- the item defines the import, by its name in the written module, as the function of the adapter that implements it, where these names are
-- drawn, or where what the import throws is caught, as one that calls this function and hands that to the module
pub record IsDefinition (s : Settings) (m : NameMap) (l : Lowered) (written : Contents) (place adapter : ℕ) (item : Item) : Type 0 where
  pub pair : IsIn (record { 0 = place }, adapter) l.wit.implements
  pub described : Import
  pub there : entry_at l.«module».imports place ≡ Some described
  pub function : JsFunction
  pub of_adapter : IsFunctionOf s m l adapter usual_form [] (names_around (throws_of l adapter described.kind)) function
  pub «import» : Import
  pub stands : entry_at written.imports place ≡ Some «import»
  pub words : item.words ≡ (define_item (throws_of l adapter described.kind) place «import».name function.words).words

-- the item defines the import, by its name in the written module, as this property of a module's name where that is a function, and else as a
-- function that throws
pub record IsPartDefinition (m : NameMap) (l : Lowered) (written : Contents) (place adapter : ℕ) (js : JsImport) (item : Item) : Type 0 where
  pub pair : IsIn (record { 0 = place }, adapter) l.wit.implements
  pub «import» : Import
  pub stands : entry_at written.imports place ≡ Some «import»
  pub words : item.words ≡ (value_item place «import».name (part_words m js)).words

-- the item defines the import, by its name in the written module, as the memory that is handed in, or a new one with the limits of the one that
-- it brings in
pub record IsMemoryDefinition (l : Lowered) (written : Contents) (place : ℕ) (item : Item) : Type 0 where
  pub described : Import
  pub there : entry_at l.«module».imports place ≡ Some described
  pub memory : Memory
  pub brought : memory_of l.«module» described.kind ≡ Some memory
  pub «import» : Import
  pub stands : entry_at written.imports place ≡ Some «import»
  pub words : item.words ≡ (value_item place «import».name (memory_words memory.limits)).words

-- by the property that the adapter does nothing but hand on to, where there is one, and else by its function
abbrev pub HoldsAdapter : Settings → NameMap → Lowered → Contents → (place adapter : ℕ) → Item → Option JsImport → Type 0
HoldsAdapter s m l written place adapter item (Some js) = IsPartDefinition m l written place adapter js item
HoldsAdapter s m l written place adapter item None = IsDefinition s m l written place adapter item

-- by the adapter that stands for the import, or where none does, by a memory
abbrev pub HoldsDefinition : Settings → NameMap → Lowered → Contents → ℕ → Item → Option ℕ → Type 0
HoldsDefinition s m l written place item (Some adapter) = HoldsAdapter s m l written place adapter item (handed_part s l.wit l.aux adapter)
HoldsDefinition s m l written place item None = IsMemoryDefinition l written place item

-- the item declares the function of an exported adapter, under the name that it was given, behind its note, exported or not
pub record IsDeclaration (s : Settings) (m : NameMap) (l : Lowered) (adapter : ℕ) (item : Item) : Type 0 where
  pub «export» : AuxExport
  pub described : IsIn «export» l.aux.exports
  pub of : «export».adapter ≡ adapter
  pub function : JsFunction
  pub of_adapter : IsFunctionOf s m l adapter (form_of «export») «export».args [] function
  pub exported : Bool
  pub words : item.words ≡ declaration_words exported (note_lines s m l «export» function.params) (declared_name m «export») function.words

-- a definition is that of its import, and the declaration of an adapter that of its function
abbrev pub HoldsFunction : Settings → NameMap → Lowered → Contents → Role → Item → Type 0
HoldsFunction s m l written (role.Define place) item = HoldsDefinition s m l written place item (adapter_for l.wit.implements place)
HoldsFunction s m l written (role.Declare (thing.Adapter id)) item = IsDeclaration s m l id item
HoldsFunction s m l written other item = Unit {0}

-- an item that declares the name of a closure's function is that of this function, and the closure is made
abbrev pub HoldsClosure : Settings → NameMap → Lowered → Item → Type 0
HoldsClosure s m l item = (id : ℕ) (name : List ℕ) → callback_name l id ≡ Some name → IsIn name (bound_in item.words)
    → IsIn id (used_closures s l) × IsClosureItem s m l id item

-- an export stands that has this name, and gives this item of the module
pub record IsExportOf (m : Contents) (name : List ℕ) (item : ExportItem) : Type 0 where
  pub «export» : Export
  pub stands : IsIn (Some «export») m.exports
  pub named : «export».name ≡ name
  pub gives : «export».item ≡ item

-- Each own import is defined once, and nothing else is. Each function is that of its adapter: it does what the adapter does, whatever
-- it is given and whatever the outside answers. What imports begin with that is no name of the host goes by these names, which are drawn for
-- it, and each item of the module that is asked for by that of an export that gives it. Each closure that is made has an item that declares its
-- function, under the name that is given for it, and no other item declares this name, or that of a closure that isn't made.
pub record IsDefined (settings : Settings) (m : NameMap) (l : Lowered) (written : Contents) (items : List Item) : Type 0 where
  pub only : (place : ℕ) → IsIn place (defined_places items) → IsIn place (own_imports settings l.«module» l.wit l.aux)
  pub all : (place : ℕ) → IsIn place (own_imports settings l.«module» l.wit l.aux) → IsIn place (defined_places items)
  pub once : AreDistinct (defined_places items)
  pub functions : EachItem (λ before item after. HoldsFunction settings m l written item.role item) [] items
  pub closures : (id : ℕ) → IsIn id (used_closures settings l) → (item : Item) × IsIn item items × IsClosureItem settings m l id item
  pub callbacks : EachItem (λ before item after. HoldsClosure settings m l item) [] items
  pub given : (item : ExportItem) → IsIn item (asked_items settings l) → IsExportOf written (export_named m (Some item)) item
