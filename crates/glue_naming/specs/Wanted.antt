-- The names that a description asks for, in the order in which they are drawn.
use Rattle.std.specs.Prelude.{◌≡◌, ℕ, List, [], ◌∷◌, ◌++◌, map, codes, if◌then◌else◌}
use Rattle.std.specs.List.{flat_map}
use Rattle.std.specs.Ordering.{nat_cmp, ordering_then}
use Rattle.std.specs.declared.cmp.Ordering.{Ordering}
use Rattle.wasm_core.specs.ids.ImportId.{ImportId}
use Rattle.glue_shared.specs.declared.aux.AuxEnum.{AuxEnum}
use Rattle.glue_shared.specs.declared.aux.AuxExport.{AuxExport}
use Rattle.glue_shared.specs.declared.aux.AuxStruct.{AuxStruct}
use Rattle.glue_shared.specs.declared.description.Lowered.{Lowered}
use Rattle.glue_shared.specs.declared.settings.Settings.{Settings}
use Rattle.glue_shared.specs.Paths.{qualified_name}
use Rattle.glue_published.specs.Roots.{AreRoots}
use Rattle.glue_names.specs.Publishing.{qualified}
use Rattle.glue_published.specs.Things.{stands_alone}
use Rattle.glue_naming.specs.declared.named.Named.TheVariants.{Class, Registry, Enum, Function, Namespace}
use Rattle.glue_naming.specs.declared.named.WantedName.TheVariants.{Plain, After}
use Rattle.glue_naming.specs.declared.named.Wanted.{Wanted}
use Rattle.glue_naming.specs.Arranged.{IsArranged, text_order}
use Rattle.glue_naming.specs.Imported.{imports_wanted}
use Rattle.glue_naming.specs.Pairs.{pair_order}
use Rattle.glue_naming.specs.Reexported.{reexports_wanted}

-- the qualified name of a class, and of an enum
abbrev pub class_key : AuxStruct → List ℕ
class_key s = qualified_name s.namespace s.name

abbrev pub enum_key : AuxEnum → List ℕ
enum_key e = qualified_name e.namespace e.name

-- a class, and at once its registry: the name that was drawn for the class, followed by `Finalization`
abbrev pub class_names : AuxStruct → List Wanted
class_names s =
    record { thing = Class (class_key s); name = Plain (class_key s) }
    ∷ record { thing = Registry (class_key s); name = After (codes "Finalization") }
    ∷ []

-- an enum of this qualified name
abbrev pub enum_wanted : List ℕ → Wanted
enum_wanted key = record { thing = Enum key; name = Plain key }

-- a function of this qualified name
abbrev pub function_wanted : List ℕ → Wanted
function_wanted key = record { thing = Function key; name = Plain key }

-- an export, where it stands by itself
abbrev pub function_names : AuxExport → List Wanted
function_names e = if stands_alone e.kind then function_wanted (qualified e) ∷ [] else []

-- a namespace with this name, at which the glue file makes its object
abbrev pub root_wanted : List ℕ → Wanted
root_wanted name = record { thing = Namespace name; name = Plain name }

-- exports by debug name, and then by the adapter's id
abbrev pub debug_order : AuxExport → AuxExport → Ordering
debug_order a b = ordering_then (text_order a.debug b.debug) (nat_cmp a.adapter b.adapter)

-- classes as they are described, each with its registry, enums by qualified name, what own imports call by the import's name and then by
-- the adapter's id, functions by debug name and then by id, what re-exports name besides by export name, and namespaces at the root in the
-- order of their names' bytes
pub record AreWanted (s : Settings) (l : Lowered) (list : List Wanted) : Type 0 where
  pub enums : List (List ℕ)
  pub by_name : IsArranged text_order (map enum_key l.aux.enums) enums
  pub pairs : List (ImportId × ℕ)
  pub by_import : IsArranged (pair_order l) l.wit.implements pairs
  pub functions : List AuxExport
  pub by_debug : IsArranged debug_order l.aux.exports functions
  pub roots : List (List ℕ)
  pub by_bytes : AreRoots s l.aux roots
  pub all : list ≡ flat_map class_names l.aux.structs
      ++ (map enum_wanted enums
      ++ (imports_wanted s l pairs ++ (flat_map function_names functions ++ (reexports_wanted s l pairs ++ map root_wanted roots))))
