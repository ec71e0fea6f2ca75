-- The names of what a description declares.
use Rattle.std.specs.Prelude.{◌≡◌, ℕ, Bool, List, [], Option, is_some, unwrap_or}
use Rattle.glue_shared.specs.declared.aux.AuxEnum.{AuxEnum}
use Rattle.glue_shared.specs.declared.aux.AuxExport.{AuxExport}
use Rattle.glue_shared.specs.declared.description.Lowered.{Lowered}
use Rattle.glue_shared.specs.declared.import.JsImportName.{JsImportName}
use Rattle.glue_shared.specs.declared.name_map.NameMap.{NameMap}
use Rattle.glue_shared.specs.declared.settings.Settings.{Settings}
use Rattle.glue_names.specs.Publishing.{qualified}
use Rattle.glue_naming.specs.declared.named.Named.TheVariants.{Enum, Import, Function, Namespace}
use Rattle.glue_naming.specs.declared.named.Wanted.{Wanted}
use Rattle.glue_naming.specs.Drawing.{IsDrawnMap, AreGood, name_in}
use Rattle.glue_naming.specs.Given.{reserved_names}
use Rattle.taken_items.specs.ItemNames.{item_map, item_names}
use Rattle.glue_naming.specs.Wanted.{AreWanted, enum_key}

-- the name that the function of an export was given
abbrev pub function_name : NameMap → AuxExport → Option (List ℕ)
function_name m e = name_in m (Function (qualified e))

-- an export's function was given a name
abbrev pub is_named : NameMap → AuxExport → Bool
is_named m e = is_some (function_name m e)

-- that name, or the empty text where none was given
abbrev pub declared_name : NameMap → AuxExport → List ℕ
declared_name m e = unwrap_or (function_name m e) []

-- the name that an enum was given
abbrev pub enum_name : NameMap → AuxEnum → Option (List ℕ)
enum_name m e = name_in m (Enum (enum_key e))

-- the name of the namespace's object at a name
abbrev pub root_name : NameMap → List ℕ → Option (List ℕ)
root_name m name = name_in m (Namespace name)

-- the name that stands for what an import begins with, where one was drawn
abbrev pub import_name : NameMap → JsImportName → Option (List ℕ)
import_name m name = name_in m (Import name)

-- the maps but that of items of the module
abbrev pub without_items : NameMap → NameMap
without_items m = record m { wasm = [] }

-- the maps have the names that are drawn for what is described, in its order, where the reserved ones are bound; and the items of the module
-- that own imports ask for are there with the names of the exports that give them
pub record AreNames (s : Settings) (l : Lowered) (m : NameMap) : Type 0 where
  pub list : List Wanted
  pub wanted : AreWanted s l list
  pub drawn : IsDrawnMap (reserved_names s l) list (without_items m)
  pub good : AreGood (reserved_names s l) list (without_items m)
  pub items : m.wasm ≡ item_map (item_names s l)
