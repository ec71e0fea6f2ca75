-- Names that are drawn for things in turn, and the maps that they fill.
use Rattle.std.specs.Prelude.{◌≡◌, ℕ, true, false, List, [], ◌∷◌, ◌++◌, Option, Some, map}
use Rattle.std.specs.FinSet as set
use Rattle.std.specs.BTreeMap.{insert_entry}
use Rattle.values.specs.Lists.{IsIn}
use Rattle.values.specs.Map.{look_up}
use Rattle.values.specs.TextSet.{TextSet}
use Rattle.glue_words.specs.Ident.{is_ident}
use Rattle.glue_scope.specs.Scope.{AreDrawn}
use Rattle.glue_shared.specs.declared.name_map.NameMap.{NameMap}
use Rattle.glue_shared.specs.NameMap.{no_names}
use Rattle.glue_naming.specs.declared.named.Named.{Named}
use Rattle.glue_naming.specs.declared.named.Named.TheVariants.{Class, Registry, Enum, Import, Function, Namespace}
use Rattle.glue_naming.specs.declared.named.WantedName.{WantedName}
use Rattle.glue_naming.specs.declared.named.WantedName.TheVariants.{Plain, After}
use Rattle.glue_naming.specs.declared.named.Wanted.{Wanted}
use Rattle.glue_published.specs.Reexports.{import_order}
use Rattle.glue_naming.specs.Arranged.{text_order}

-- ---- the names that are wanted

-- the name that is wanted, once another was drawn last
abbrev pub name_wanted : List ℕ → WantedName → List ℕ
name_wanted last (Plain name) = name
name_wanted last (After end) = last ++ end

-- the names that are wanted in turn, where these are drawn for them
abbrev pub turn_names : List ℕ → List Wanted → List (List ℕ) → List (List ℕ)
turn_names last [] names = []
turn_names last (w ∷ list) [] = name_wanted last w.name ∷ []
turn_names last (w ∷ list) (name ∷ names) = name_wanted last w.name ∷ turn_names name list names

-- a wanted name that is an identifier, and free in its turn, is drawn as it is
abbrev pub AreKept : TextSet → List (List ℕ) → List (List ℕ) → Type 0
AreKept bound [] names = Unit {0}
AreKept bound (wanted ∷ others) [] = Unit {0}
AreKept bound (wanted ∷ others) (name ∷ names) =
    (is_ident wanted ≡ true → set.contains bound wanted ≡ false → name ≡ wanted) × AreKept (set.insert bound name) others names

-- ---- the maps

-- the maps with the name of one thing more
abbrev pub put_name : NameMap → Named → List ℕ → NameMap
put_name m (Class key) name = record m { classes = insert_entry text_order m.classes key name }
put_name m (Registry key) name = record m { registries = insert_entry text_order m.registries key name }
put_name m (Enum key) name = record m { enums = insert_entry text_order m.enums key name }
put_name m (Import key) name = record m { imports = insert_entry import_order m.imports key name }
put_name m (Function key) name = record m { functions = insert_entry text_order m.functions key name }
put_name m (Namespace key) name = record m { namespaces = insert_entry text_order m.namespaces key name }

-- the name that a thing was given
abbrev pub name_in : NameMap → Named → Option (List ℕ)
name_in m (Class key) = look_up text_order m.classes key
name_in m (Registry key) = look_up text_order m.registries key
name_in m (Enum key) = look_up text_order m.enums key
name_in m (Import key) = look_up import_order m.imports key
name_in m (Function key) = look_up text_order m.functions key
name_in m (Namespace key) = look_up text_order m.namespaces key

-- the maps with the names of a list's things
abbrev pub map_of : NameMap → List Wanted → List (List ℕ) → NameMap
map_of m [] names = m
map_of m (w ∷ list) [] = m
map_of m (w ∷ list) (name ∷ names) = map_of (put_name m w.thing name) list names

-- ---- what is promised

-- the maps are those of the names that are drawn for the wanted ones in turn
pub record IsDrawnMap (bound : TextSet) (list : List Wanted) (m : NameMap) : Type 0 where
  pub names : List (List ℕ)
  pub drawn : AreDrawn bound (turn_names [] list names) names
  pub kept : AreKept bound (turn_names [] list names) names
  pub filled : m ≡ map_of no_names list names

-- each thing has a name; a name is an identifier and was free; and two things have two names
pub record AreGood (bound : TextSet) (list : List Wanted) (m : NameMap) : Type 0 where
  pub found : (thing : Named) → IsIn thing (map (λ w. w.thing) list) → (name : List ℕ) × (name_in m thing ≡ Some name)
  pub idents : (thing : Named) (name : List ℕ) → name_in m thing ≡ Some name → is_ident name ≡ true
  pub free : (thing : Named) (name : List ℕ) → name_in m thing ≡ Some name → set.contains bound name ≡ false
  pub apart : (one other : Named) (name : List ℕ) → name_in m one ≡ Some name → name_in m other ≡ Some name → one ≡ other
